use Rattle.std.proofs.Common.{rules, refl}
use Rattle.queue.proofs.RingLaws.{appending_first, appending_at, appending_next, appending_last}
use Rattle.queue.proofs.Queue.append.Goals as goal

pub loop-b-init : goal.loop-b-init
loop-b-init c = rw (c.into_iter-b-iterator.ensures.into_iter_gives, c.each_bit-b-items.ensures) (appending_first _ _ _ (search rules))

pub overflow_add-self-in-loop-b : goal.overflow_add-self-in-loop-b
overflow_add-self-in-loop-b c = let n = appending_at _ _ _ _ _ c.loop-b.invariant in search rules

pub loop-b-preserved : goal.loop-b-preserved
loop-b-preserved c = let s = c.in-Some.ensures.steps in rw s.1 (appending_next _ _ _ _ _ c.loop-b.invariant _ _ s.0 refl)

pub returns : goal.returns
returns c = appending_last _ _ _ _ _ c.loop-b.invariant c.in-None.ensures.steps.0
