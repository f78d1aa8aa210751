use mathlib.Core.List.{◌∷◌, []}
use Rattle.listing.proofs.WritingLaws.{wrote_append, capacity_first, capacity_rest}
use Rattle.listing.proofs.Page.marked.Goals as goal

pub byte-requires : goal.byte-requires
byte-requires c = capacity_first (c.args.mark ∷ []) _ c.requires

pub numeral-requires : goal.numeral-requires
numeral-requires c = capacity_rest c.byte.ensures _ c.requires

pub returns : goal.returns
returns c = wrote_append c.byte.ensures c.numeral.ensures
