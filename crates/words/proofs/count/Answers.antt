use mathlib.Core.Path.{sym}
use Rattle.laws.proofs.BitsLaws.{bits_ones}
use Rattle.words.proofs.count.Goals as goal

pub returns : goal.returns
returns c = sym (bits_ones c.args.w c.ranges.w.fits)
