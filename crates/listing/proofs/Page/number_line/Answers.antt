use Rattle.listing.proofs.LineLaws.{first_capacity, field_capacity, newline_capacity, line_wrote, no_fields}
use Rattle.model.specs.Listing.{number_line}
use Rattle.listing.proofs.Page.number_line.Goals as goal

pub marked-requires : goal.marked-requires
unfolding number_line
marked-requires c = first_capacity _ _ _ c.requires

pub marked-requires-2 : goal.marked-requires-2
unfolding number_line
marked-requires-2 c = rw c.value.ensures (field_capacity _ _ _ c.requires c.marked.ensures)

pub byte-requires : goal.byte-requires
unfolding number_line
byte-requires c =
    newline_capacity _ _ _ c.requires c.marked.ensures (rw c.value.ensures at c.marked-2.ensures) (no_fields _)

pub returns : goal.returns
unfolding number_line
returns c =
    line_wrote _ _ _ c.requires c.marked.ensures (rw c.value.ensures at c.marked-2.ensures) (no_fields _) c.byte.ensures
