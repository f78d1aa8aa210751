use Rattle.std.proofs.Common.{[], take}
use Rattle.steps.specs.Names.{Blanked}
use Rattle.steps.proofs.clear.Given as goal

abbrev pub invariant-loop-x : goal.invariant-loop-x
invariant-loop-x l = Blanked (take l.x-index l.x-items) [] l.initial.table l.table
