use Rattle.queue.proofs.RingLaws.{Filling}
use Rattle.queue.proofs.Queue.all.Given as goal

abbrev pub invariant-loop-i : goal.invariant-loop-i
invariant-loop-i l = Filling l.ring l.i
