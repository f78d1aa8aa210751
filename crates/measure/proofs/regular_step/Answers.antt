use Rattle.automata.proofs.KindLaws.{no_words}
use Rattle.measure.proofs.StepLaws.{asked-regular, strings-kept}
use Rattle.measure.proofs.regular_step.Goals as goal

pub narrow-requires : goal.narrow-requires
narrow-requires c = let r = asked-regular c.requires in (no_words _ _ _, r.0, r.1, r.2)

pub returns : goal.returns
returns c = strings-kept c.requires c.narrow.ensures c.is_some.ensures
