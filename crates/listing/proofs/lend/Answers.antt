use Rattle.std.proofs.Common.{arith}
use mathlib.Core.Path.{sym}
use lib.Seq.{length-take-le}
use Rattle.listing.proofs.ReportLaws.{counted_range, lent-whole}
use Rattle.listing.proofs.lend.Goals as goal

pub overflow_mul-words : goal.overflow_mul-words
overflow_mul-words c = let r = counted_range c.requires.0 in omega (arith, r.0, r.1)

pub overflow_add-words : goal.overflow_add-words
overflow_add-words c = let r = counted_range c.requires.0 in omega (arith, r.0, r.1)

pub slice_bounds-table-end : goal.slice_bounds-table-end
slice_bounds-table-end c = let r = counted_range c.requires.0 in omega (arith, r.0, r.1)

pub slice_bounds-outcome-end-2 : goal.slice_bounds-outcome-end-2
slice_bounds-outcome-end-2 c =
    let r = counted_range c.requires.0 in
    sym (length-take-le _ _ (omega (arith, r.0, r.1)))

pub outcome-requires : goal.outcome-requires
outcome-requires c = (lent-whole c.requires.0, c.requires.1)
