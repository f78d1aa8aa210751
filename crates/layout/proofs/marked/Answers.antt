use mathlib.Core.Path.{◌∙◌}
use Rattle.layout.proofs.TrailerLaws.{mark-ends}
use Rattle.layout.proofs.marked.Goals as goal

pub returns : goal.returns
returns c = c.ends_with.ensures.value ∙ mark-ends c.args.file.now c.requires
