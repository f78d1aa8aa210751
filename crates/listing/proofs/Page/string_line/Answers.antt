use Rattle.listing.proofs.LineLaws.{first_capacity, field_capacity, fields_capacity, newline_capacity, line_wrote}
use Rattle.listing.proofs.TableLinesLaws.{string-parts, string_capacity}
use Rattle.listing.proofs.Page.string_line.Goals as goal

pub marked-requires : goal.marked-requires
marked-requires c =
    first_capacity _ _ _ (string_capacity _ _ _ c.value-length.ensures c.requires)

pub marked-requires-2 : goal.marked-requires-2
marked-requires-2 c =
    field_capacity _ _ _ (string_capacity _ _ _ c.value-length.ensures c.requires) c.marked.ensures

pub values-requires : goal.values-requires
values-requires c =
    fields_capacity _ _ _ (string_capacity _ _ _ c.value-length.ensures c.requires) c.marked.ensures c.marked-2.ensures

pub byte-requires : goal.byte-requires
byte-requires c =
    newline_capacity _ _ _ (string_capacity _ _ _ c.value-length.ensures c.requires) c.marked.ensures c.marked-2.ensures c.values.ensures

pub returns : goal.returns
returns c =
    rw (string-parts c.args.row.now c.args.x c.value-length.result c.value-length.ensures c.requires.0 c.requires.1)
    (line_wrote _ _ _ (string_capacity _ _ _ c.value-length.ensures c.requires) c.marked.ensures c.marked-2.ensures c.values.ensures c.byte.ensures)
