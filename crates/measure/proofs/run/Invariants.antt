use Rattle.measure.specs.TidyRows.{TidyRows}
use Rattle.measure.proofs.run.Given as goal

abbrev pub invariant-loop : goal.invariant-loop
invariant-loop l = TidyRows 3 l.t
