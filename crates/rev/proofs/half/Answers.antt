use Rattle.std.proofs.Common.{refl}
use Rattle.rev.proofs.TurnLaws.{half-start, half-turn}
use Rattle.rev.proofs.half.Goals as goal

pub loop-l-init : goal.loop-l-init
loop-l-init c = rw (c.into_iter-l-iterator.ensures.into_iter_gives, c.each_bit-l-items.ensures) (λ b e. e, rw c.requires.3 (half-start _ _ _ _ c.requires.2))

pub loop-l-preserved : goal.loop-l-preserved
loop-l-preserved c =
    let s = c.in-Some.ensures.steps in
    rw s.1 (half-turn _ _ _ _ _ _ _ _ _ s.0.here refl c.widen.ensures c.loop-l.invariant.0 c.loop-l.invariant.1)
