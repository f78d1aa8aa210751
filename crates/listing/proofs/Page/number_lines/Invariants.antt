use mathlib.Core.List.{flat_map}
use lib.ListN.{length, get_or, take}
use Rattle.model.specs.Lists.{upto}
use Rattle.model.specs.Listing.{number_line}
use Rattle.listing.specs.Writing.{Wrote}
use Rattle.listing.specs.TableLines.{only_value}
use Rattle.listing.proofs.Page.number_lines.Given as goal

abbrev pub invariant-loop-x : goal.invariant-loop-x
invariant-loop-x l = Wrote l.initial.self (flat_map (λ y. number_line y (only_value (get_or l.words y 0))) (take l.x (upto (length l.words)))) l.self
