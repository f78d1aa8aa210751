use Rattle.std.proofs.Common.{refl}
use Rattle.sub.proofs.Turns.{over-start, over-turn}
use Rattle.sub.proofs.over.Goals as goal

pub loop-off-init : goal.loop-off-init
loop-off-init c = rw (c.into_iter-off-iterator.ensures.into_iter_gives, c.each_bit-off-items.ensures) (over-start _ _ _ _)

pub loop-off-preserved : goal.loop-off-preserved
loop-off-preserved c =
    let s = c.in-Some.ensures.steps in
    rw s.1 (over-turn _ _ _ _ _ _ _ _ c.loop-off.invariant s.0 refl)
