use Rattle.steps.proofs.TrimSteps.{trim_blanked}
use Rattle.steps.proofs.trim_row.Goals as goal

pub returns-then-not-tidy : goal.returns-then-not-tidy
returns-then-not-tidy c =
    trim_blanked _ _ c.requires _ _ c.tidy.ensures (c.if-not-tidy.true) _ c.blank.ensures
