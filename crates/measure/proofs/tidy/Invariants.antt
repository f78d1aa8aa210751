use Rattle.measure.specs.TidyRows.{TidyRows}
use Rattle.measure.proofs.tidy.Given as goal

abbrev pub invariant-loop-x : goal.invariant-loop-x
invariant-loop-x l = TidyRows l.x l.t
