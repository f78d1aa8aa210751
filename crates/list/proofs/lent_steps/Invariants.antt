use Rattle.format.specs.Problems.{the_problem}
use Rattle.list.proofs.StepWalkLaws.{Walked}
use Rattle.list.proofs.lent_steps.Given as goal

abbrev pub invariant-loop-r : goal.invariant-loop-r
invariant-loop-r l = Walked (the_problem l.p) (the_problem l.p).constraints l.initial.table l.r-index l.table
