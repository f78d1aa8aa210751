use Rattle.automata.proofs.SetLaws.{low-common}
use Rattle.automata.proofs.below.Goals as goal

pub returns : goal.returns
returns c = low-common _ _ _ c.below.ensures
