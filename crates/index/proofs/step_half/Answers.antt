use mathlib.Core.Path.{◌∙◌}
use Rattle.index.proofs.LentLaws.{step-inside, step-outside}
use Rattle.index.proofs.step_half.Goals as goal

pub returns-then-j-h : goal.returns-then-j-h
returns-then-j-h c = c.singleton.ensures ∙ step-inside _ _ c.if-j-h.true

pub returns : goal.returns
returns c = step-outside _ _ c.if-j-h.false
