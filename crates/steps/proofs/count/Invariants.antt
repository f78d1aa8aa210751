use Rattle.steps.proofs.SizeLaws.{Summed}
use Rattle.steps.proofs.count.Given as goal

abbrev pub invariant-loop-x : goal.invariant-loop-x
invariant-loop-x l = Summed l.x-items l.table l.x-index l.n
