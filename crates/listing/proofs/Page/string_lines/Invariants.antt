use mathlib.Core.List.{flat_map}
use lib.ListN.{take}
use Rattle.model.specs.Lists.{upto}
use Rattle.model.specs.Domains.{row}
use Rattle.model.specs.Listing.{string_line}
use Rattle.listing.specs.Writing.{Wrote}
use Rattle.listing.specs.TableLines.{text_of}
use Rattle.listing.proofs.Page.string_lines.Given as goal

abbrev pub invariant-loop-x : goal.invariant-loop-x
invariant-loop-x l = Wrote l.initial.self (flat_map (λ y. string_line y (text_of (row l.table y))) (take l.x (upto l.s))) l.self
