use mathlib.Core.Path.{sym}
use Rattle.words.proofs.SeveralLaws.{several-zero, several-lowest}
use Rattle.words.proofs.several.Goals as goal

pub returns-then-w-eq0 : goal.returns-then-w-eq0
returns-then-w-eq0 c = rw c.if-w-eq0.true (sym several-zero)

pub returns : goal.returns
returns c = rw c.singleton.ensures (several-lowest _ _ c.ranges.w.fits c.lowest.ensures)
