use Rattle.std.proofs.Common.{refl}
use Rattle.automata.proofs.MachineLaws.{mark-next}
use Rattle.automata.proofs.SetLaws.{walked_start, walked_end, moves-add}
use Rattle.automata.proofs.Automaton.moves.Goals as goal

pub loop-a-init : goal.loop-a-init
loop-a-init c = rw (c.into_iter-a-iterator.ensures.into_iter_gives, c.each_bit-a-items.ensures) (walked_start _ _ _ _ (λ i t x. x.0) c.below.ensures)

pub loop-a-preserved : goal.loop-a-preserved
loop-a-preserved c =
    let s = c.in-Some.ensures.steps in
    rw s.1 (moves-add _ _ _ _ _ _ _ _ _ _ c.loop-a.invariant s.0 refl (mark-next _ c.mark.ensures c.next-in-loop-a.ensures.0) c.singleton-r.ensures)

pub returns : goal.returns
returns c = walked_end _ _ _ _ _ c.in-None.ensures.steps.0 c.loop-a.invariant
