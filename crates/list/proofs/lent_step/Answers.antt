use mathlib.Core.Path.{refl}
use Rattle.list.proofs.ListedLaws.{listed-there, listed_step}
use Rattle.list.proofs.lent_step.Goals as goal

pub step-requires : goal.step-requires
step-requires c = (c.requires.0, listed-there _ _ c.requires.1 _ c.requires.2 _ refl)

pub returns : goal.returns
returns c = listed_step _ _ c.requires.1 _ c.requires.2 _ refl _ _ _ c.step.ensures
