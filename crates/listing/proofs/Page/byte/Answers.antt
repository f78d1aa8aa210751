use mathlib.Core.Path.{refl}
use Rattle.listing.specs.Writing.{written}
use Rattle.listing.proofs.Page.byte.Goals as goal

pub returns : goal.returns
unfolding written
returns c = record { same_buffer = refl; buffer = refl; index = refl }
