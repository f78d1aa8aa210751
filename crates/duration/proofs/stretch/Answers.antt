use Rattle.std.proofs.Common.{rules, ◌≡◌, ◌≢◌}
use lib.Bits.{bit_and}
use Rattle.std.proofs.lemmas.Iterator.{first_from_Range}
use Rattle.duration.specs.Stretches.{places_after}
use Rattle.duration.proofs.StretchLaws.{stretch_by}
use Rattle.duration.proofs.stretch.Goals as goal

pub returns : goal.returns
returns c =
    rw c.unwrap_or.ensures (stretch_by _ _ _ c.requires.0 _
    (first_from_Range _ _ _ _ (λ i. bit_and (places_after c.args.t.now c.args.a i) 1023 ≡ 0) (λ i. bit_and (places_after c.args.t.now c.args.a i) 1023 ≢ 0)
    c.find.ensures.ran (λ x q k. search rules) (λ x q k. search rules)))
