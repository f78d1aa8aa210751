use Rattle.numbering.proofs.ListedLaws.{ahead-start, ahead-set}
use Rattle.numbering.proofs.Letters.ahead.Goals as goal

pub returns-then-i-eq0 : goal.returns-then-i-eq0
returns-then-i-eq0 c = ahead-start _ _ _ _ c.if-i-eq0.true

pub returns-else-i-eq0 : goal.returns-else-i-eq0
returns-else-i-eq0 c = ahead-set _ _ _ _ _ c.if-i-eq0.false c.gather.ensures
