use Rattle.model.specs.StepIndex.{index_of}
use Rattle.format.specs.Problems.{the_problem}
use Rattle.laws.proofs.SliceLaws.{Copied}
use Rattle.index.proofs.write.Given as goal

abbrev pub invariant-loop-i : goal.invariant-loop-i
invariant-loop-i l = Copied (index_of (the_problem l.p)) l.initial.index l.i l.index
