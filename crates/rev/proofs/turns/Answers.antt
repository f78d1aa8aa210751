use Rattle.std.proofs.Common.{arith, rules, refl, ◌≡◌, ◌≢◌, ◌+◌, ◌-◌}
use lib.Bits.{bit_and}
use Rattle.std.proofs.lemmas.Iterator.{YieldsList-from_range, cases_from_all}
use Rattle.model.specs.Words.{word}
use Rattle.rev.proofs.TurnLaws.{turns_by}
use Rattle.rev.proofs.turns.Goals as goal

pub returns : goal.returns
returns c =
    turns_by _ _ _ _ _ (cases_from_all _ _ _ (λ i. bit_and (word c.args.t.now (c.args.a + i + 1)) (word c.args.t.now (c.args.b + c.args.l - i)) ≢ 0)
    (λ i. bit_and (word c.args.t.now (c.args.a + i + 1)) (word c.args.t.now (c.args.b + c.args.l - i)) ≡ 0) c.all.ensures.ran
    (YieldsList-from_range 0 c.args.l c.args.l refl (omega arith))
    (λ x q k. search rules) (λ x q k. search rules))
