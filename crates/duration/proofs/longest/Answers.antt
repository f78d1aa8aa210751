use Rattle.duration.proofs.StretchLaws.{longest-none, longest-some}
use Rattle.duration.proofs.longest.Goals as goal

pub returns-then-reached-eq0 : goal.returns-then-reached-eq0
returns-then-reached-eq0 c = longest-none _ _ _ c.low_mask.ensures c.if-reached-eq0.true

pub returns : goal.returns
returns c = longest-some _ _ _ c.low_mask.ensures _ c.highest.ensures
