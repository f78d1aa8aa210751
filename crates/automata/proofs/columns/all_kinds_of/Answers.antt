use Rattle.std.proofs.Common.{refl, rules}
use Rattle.std.specs.Prelude.{Some}
use Rattle.automata.proofs.SetLaws.{walked_end}
use Rattle.automata.proofs.KindLaws.{all_start, all-turn}
use Rattle.automata.proofs.columns.all_kinds_of.Goals as goal

pub loop-a-init : goal.loop-a-init
loop-a-init c = rw (c.into_iter-a-iterator.ensures.into_iter_gives, c.each_bit-a-items.ensures) (all_start (Some c.args.ks.now) c.args.firsts (search rules), λ b y. y)

pub loop-a-preserved : goal.loop-a-preserved
loop-a-preserved c =
    let s = c.in-Some.ensures.steps in
    rw s.1 (all-turn (Some c.args.ks.now) c.args.firsts _ _ _ _ c.loop-a.invariant s.0 refl)

pub returns : goal.returns
returns c = walked_end _ _ _ _ _ c.in-None.ensures.steps.0 c.loop-a.invariant.0
