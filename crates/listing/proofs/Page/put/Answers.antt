use Rattle.std.proofs.Common.{arith}
use mathlib.Core.Path.{refl}
use Rattle.listing.proofs.WritingLaws.{written-part}
use Rattle.listing.proofs.Page.put.Goals as goal

pub returns : goal.returns
returns c = record {
  same_buffer = refl;
  buffer = written-part _ _ _ _ _ c.copy_from_slice.ensures.after (omega arith) c.requires.fits;
  index = refl;
}
