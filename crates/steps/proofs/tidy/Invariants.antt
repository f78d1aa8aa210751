use Rattle.std.proofs.Common.{true, take}
use Rattle.steps.specs.Names.{Tidies}
use Rattle.steps.proofs.tidy.Given as goal

abbrev pub invariant-loop-x : goal.invariant-loop-x
invariant-loop-x l = Tidies (take l.x-index l.x-items) l.initial.table l.table true
