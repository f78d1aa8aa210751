use mathlib.Core.List.{flat_map}
use lib.ListN.{take}
use Rattle.model.specs.Listing.{field}
use Rattle.listing.specs.Writing.{Wrote}
use Rattle.listing.specs.TableLines.{only_value}
use Rattle.listing.proofs.Page.values.Given as goal

abbrev pub invariant-loop-domain : goal.invariant-loop-domain
invariant-loop-domain l = Wrote l.initial.self (flat_map (λ w. field (only_value w)) (take l.domain-index l.domains)) l.self
