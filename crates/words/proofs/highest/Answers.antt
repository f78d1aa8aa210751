use Rattle.words.proofs.EndLaws.{highest_leading}
use Rattle.words.proofs.highest.Goals as goal

pub returns : goal.returns
returns c = highest_leading c.args.w c.requires c.ranges.w.fits
