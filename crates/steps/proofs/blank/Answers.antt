use Rattle.steps.proofs.BlankLaws.{blanked_one}
use Rattle.steps.proofs.blank.Goals as goal

pub returns : goal.returns
returns c =
    blanked_one _ _ _ c.requires c.clear.ensures
