use Rattle.cobleskeg.proofs.PerformLaws.{settle-call, step_call}
use Rattle.cobleskeg.proofs.call.Goals as goal

pub returns-then-n-eq-SETTLE : goal.returns-then-n-eq-SETTLE
returns-then-n-eq-SETTLE c = settle-call _ _ _ _ c.if-n-eq-SETTLE.true c.settle.ensures.table_after

pub returns-else-n-eq-SETTLE : goal.returns-else-n-eq-SETTLE
returns-else-n-eq-SETTLE c = step_call _ _ _ _ c.if-n-eq-SETTLE.false c.step.ensures.table_after
