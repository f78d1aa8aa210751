use Rattle.words.proofs.EndLaws.{lowest_trailing}
use Rattle.words.proofs.lowest.Goals as goal

pub returns : goal.returns
returns c = lowest_trailing c.args.w c.requires c.ranges.w.fits
