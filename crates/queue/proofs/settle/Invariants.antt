use Prim.Native.Nat.{◌-◌}
use Rattle.model.specs.Queue.{queueing}
use Rattle.format.specs.Problems.{the_problem}
use Rattle.queue.proofs.RunLaws.{Runs}
use Rattle.queue.proofs.settle.Given as goal

abbrev pub invariant-loop-q : goal.invariant-loop-q
invariant-loop-q l = Runs (the_problem l.p) l.initial.table l.q l.table

abbrev pub decreases-loop-q : goal.decreases-loop-q
decreases-loop-q l = (queueing (the_problem l.p) l.initial.table).steps - l.q.head
