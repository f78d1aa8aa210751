use Prim.Native.Nat.{◌*◌}
use Rattle.listing.proofs.TableLinesLaws.{rest_part}
use Rattle.listing.proofs.WritingLaws.{wrote_append, capacity_first, capacity_rest}
use Rattle.listing.specs.TableLines.{row_lines, table_lines}
use Rattle.listing.proofs.Page.solution.Goals as goal

pub string_lines-requires : goal.string_lines-requires
unfolding table_lines
string_lines-requires c =
    (c.requires.0, c.requires.1, capacity_first (row_lines c.args.table.now c.args.s) _ c.requires.2)

pub number_lines-requires : goal.number_lines-requires
unfolding table_lines
number_lines-requires c =
    rw (rest_part c.args.table.now (64 * c.args.s)) (capacity_rest c.string_lines.ensures _ c.requires.2)

pub returns : goal.returns
unfolding table_lines
returns c =
    wrote_append c.string_lines.ensures (rw (rest_part c.args.table.now (64 * c.args.s)) at c.number_lines.ensures)
