use Rattle.queue.proofs.RingLaws.{Appending}
use Rattle.queue.proofs.Queue.append.Given as goal

abbrev pub invariant-loop-b : goal.invariant-loop-b
invariant-loop-b l = Appending l.fn.self l.w l.base l.self l.b-iterator.rest
