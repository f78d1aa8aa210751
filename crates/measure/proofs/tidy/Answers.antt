use Rattle.std.proofs.Common.{arith, rules}
use Rattle.measure.proofs.StepLaws.{tidy-next}
use Rattle.measure.proofs.tidy.Goals as goal

pub loop-x-preserved : goal.loop-x-preserved
loop-x-preserved c = tidy-next (omega arith) c.loop-x.invariant c.tidy.ensures (search rules)
