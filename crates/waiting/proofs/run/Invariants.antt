use Prim.Native.Nat.{◌<◌}
use Rattle.format.specs.Problems.{the_problem}
use Rattle.waiting.proofs.RunLaws.{Went, load}
use Rattle.waiting.proofs.run.Given as goal

abbrev pub invariant-loop-pending : goal.invariant-loop-pending
invariant-loop-pending l = Went (the_problem l.p.problem) l.initial.table l.start l.table l.pending × (l.j < 64)

abbrev pub decreases-loop-pending : goal.decreases-loop-pending
decreases-loop-pending l = load l.table l.pending
