use Rattle.std.proofs.Common.{refl}
use Rattle.automata.proofs.SetLaws.{walked_start, walked_end, successors-add, successors-end}
use Rattle.automata.proofs.Automaton.successors.Goals as goal

pub loop-p-init : goal.loop-p-init
loop-p-init c = rw (c.into_iter-p-iterator.ensures.into_iter_gives, c.each_bit-p-items.ensures) (walked_start _ _ _ _ (λ i t x. x.0) (rw c.states.ensures at c.below.ensures))

pub loop-p-preserved : goal.loop-p-preserved
loop-p-preserved c =
    let s = c.in-Some.ensures.steps in
    rw s.1 (successors-add _ _ _ _ _ _ _ _ _ _ c.loop-p.invariant s.0 refl c.moves-r.ensures)

pub returns : goal.returns
returns c = successors-end _ _ _ _ _ _ (walked_end _ _ _ _ _ c.in-None.ensures.steps.0 c.loop-p.invariant)
