use Prim.Native.Nat.{◌-◌, ◌≤◌}
use Rattle.waiting.proofs.BeginLaws.{Trimmings}
use Rattle.waiting.proofs.tidy_all.Given as goal

abbrev pub invariant-loop-x : goal.invariant-loop-x
invariant-loop-x l = (l.x ≤ l.s) × Trimmings l.s l.initial.table l.table l.x

abbrev pub decreases-loop-x : goal.decreases-loop-x
decreases-loop-x l = l.s - l.x
