use Rattle.std.proofs.Common.{arith}
use Rattle.listing.proofs.SearchedLaws.{ending_capacity}
use Rattle.listing.proofs.ReportLaws.{refused-lines}
use Rattle.model.specs.Listing.{listing}
use Rattle.listing.proofs.print.Goals as goal

pub ending-requires : goal.ending-requires
ending-requires c =
    let same = c.in-Err.ensures.1 in
    rw same (ending_capacity _ _ c.requires (omega arith) (omega (arith, c.number.type_inv)))

pub returns-in-Err : goal.returns-in-Err
unfolding listing
returns-in-Err c =
    let same = c.in-Err.ensures.1 in
    refused-lines _ _ c.in-Err.ensures c.number.ensures (rw same (ending_capacity _ _ c.requires (omega arith) (omega (arith, c.number.type_inv)))) c.ending.ensures

pub returns-in_default : goal.returns-in_default
unfolding listing
returns-in_default c = c.in_default.ensures
