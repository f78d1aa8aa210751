use Rattle.std.proofs.Common.{rules}
use Rattle.listing.specs.TableLines.{only_value}
use Rattle.listing.proofs.value.Goals as goal

pub returns : goal.returns
unfolding only_value
returns c = search rules
