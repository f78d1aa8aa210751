use mathlib.Core.Path.{sym}
use Rattle.format.proofs.ContentLaws.{usable-width}
use Rattle.format.proofs.problem.Problem.words.Goals as goal

pub returns : goal.returns
returns c = sym (usable-width _ _ c.args.self.now.usable)
