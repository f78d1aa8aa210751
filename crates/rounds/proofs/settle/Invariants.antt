use mathlib.Core.Path.{◌≡◌}
use Rattle.model.specs.Words.{size}
use Rattle.format.specs.Problems.{the_problem}
use Rattle.list.proofs.StepWalkLaws.{Walked}
use Rattle.rounds.proofs.RoundWalks.{trims, Begins}
use Rattle.rounds.proofs.settle.Given as goal

abbrev pub invariant-loop-x-2 : goal.invariant-loop-x-2
invariant-loop-x-2 l = Walked (the_problem l.p) (trims (the_problem l.p)) l.initial.table l.x l.table

abbrev pub invariant-loop-x : goal.invariant-loop-x
invariant-loop-x l = Begins (the_problem l.p) l.initial.table l.table l.n × (l.before ≡ size l.table)

abbrev pub decreases-loop-x : goal.decreases-loop-x
decreases-loop-x l = size l.table
