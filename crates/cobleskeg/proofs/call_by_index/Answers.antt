use Rattle.cobleskeg.proofs.PerformLaws.{by-index-call, other-call}
use Rattle.cobleskeg.proofs.call_by_index.Goals as goal

pub returns-then-n-eq-SETTLE_BY_INDEX : goal.returns-then-n-eq-SETTLE_BY_INDEX
returns-then-n-eq-SETTLE_BY_INDEX c = by-index-call _ _ _ _ _ c.if-n-eq-SETTLE_BY_INDEX.true c.settle_by_index.ensures.table_after

pub returns-else-n-eq-SETTLE_BY_INDEX : goal.returns-else-n-eq-SETTLE_BY_INDEX
returns-else-n-eq-SETTLE_BY_INDEX c = other-call _ _ _ _ _ c.if-n-eq-SETTLE_BY_INDEX.false c.call.ensures
