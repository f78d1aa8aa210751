use Rattle.inplace.proofs.Parts.{tidy-lengths}
use Rattle.cat.proofs.narrow.Goals as goal

pub highest-p-requires : goal.highest-p-requires
highest-p-requires c = tidy-lengths _ _ c.requires.tidy-x
