use Rattle.std.proofs.Common.{rules}
use Rattle.listing.proofs.LineLaws.{each_start, each_capacity, each_step, each-end}
use Rattle.laws.proofs.ListLaws.{flat_map-map}
use Rattle.model.specs.Listing.{field}
use Rattle.listing.specs.TableLines.{only_value}
use Rattle.listing.proofs.Page.values.Goals as goal

pub loop-domain-init : goal.loop-domain-init
loop-domain-init c = each_start (λ w. field (only_value w)) c.args.domains.now

pub marked-requires : goal.marked-requires
unfolding field
marked-requires c =
    let k = c.loop-domain in
    rw c.value.ensures (each_capacity (λ w. field (only_value w)) c.args.domains.now k.domain-index (search rules) k.invariant (rw (flat_map-map field only_value c.args.domains.now) at c.requires))

pub loop-domain-preserved : goal.loop-domain-preserved
unfolding field
loop-domain-preserved c =
    let k = c.loop-domain in
    each_step (λ w. field (only_value w)) c.args.domains.now k.domain-index (search rules) k.invariant (rw c.value.ensures at c.marked.ensures)

pub returns : goal.returns
returns c =
    rw (flat_map-map field only_value c.args.domains.now) (each-end (λ w. field (only_value w)) c.args.domains.now c.loop-domain.domain-index (search rules) c.loop-domain.invariant)
