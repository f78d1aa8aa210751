use Rattle.listing.proofs.LineLaws.{first_capacity, field_capacity, newline_capacity, line_wrote, no_fields}
use Rattle.listing.proofs.Page.ending.Goals as goal

pub put-requires : goal.put-requires
put-requires c = first_capacity _ _ _ c.requires

pub marked-requires : goal.marked-requires
marked-requires c = field_capacity _ _ _ c.requires c.put.ensures

pub byte-requires : goal.byte-requires
byte-requires c = newline_capacity _ _ _ c.requires c.put.ensures c.marked.ensures (no_fields _)

pub returns : goal.returns
returns c = line_wrote _ _ _ c.requires c.put.ensures c.marked.ensures (no_fields _) c.byte.ensures
