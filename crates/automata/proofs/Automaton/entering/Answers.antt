use Rattle.std.proofs.Common.{refl}
use Rattle.automata.proofs.SetLaws.{walked_start, walked_end, entering-skip, entering-add}
use Rattle.automata.proofs.Automaton.entering.Goals as goal

pub loop-p-init : goal.loop-p-init
loop-p-init c = rw (c.into_iter-p-iterator.ensures.into_iter_gives, c.each_bit-p-items.ensures) (walked_start _ _ _ _ (λ i t x. x.1) (rw c.states.ensures at c.below.ensures))

pub loop-p-preserved-then-enters : goal.loop-p-preserved-then-enters
loop-p-preserved-then-enters c =
    let s = c.in-Some.ensures.steps in
    rw s.1 (entering-add _ _ _ _ _ _ _ _ _ _ _ _ c.loop-p.invariant s.0 refl c.enters.ensures _ c.if-enters.true c.only-r.ensures refl)

pub loop-p-preserved : goal.loop-p-preserved
loop-p-preserved c =
    let s = c.in-Some.ensures.steps in
    rw s.1 (entering-skip _ _ _ _ _ _ _ _ _ _ _ _ c.loop-p.invariant s.0 refl c.enters.ensures c.if-enters.false refl)

pub returns : goal.returns
returns c = walked_end _ _ _ _ _ c.in-None.ensures.steps.0 c.loop-p.invariant
