use Rattle.words.proofs.BelowLaws.{below_none, below-low}
use Rattle.words.proofs.below.Goals as goal

pub returns-then-n-eq0 : goal.returns-then-n-eq0
returns-then-n-eq0 c = rw c.if-n-eq0.true below_none

pub returns : goal.returns
returns c = below-low _ _ c.if-n-eq0.false c.low_mask.ensures
