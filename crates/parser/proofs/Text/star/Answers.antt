use Rattle.std.proofs.Common.{arith, sym, ◌∙◌}
use Rattle.parser.proofs.ReadLaws.{star-more, star-none}
use Rattle.parser.proofs.Text.star.Goals as goal

pub returns-then-sees : goal.returns-then-sees
returns-then-sees c = star-more _ _ _ _ _ (sym c.sees.ensures ∙ c.if-sees.true) c.link.ensures

pub returns : goal.returns
returns c = star-none _ _ _ _ (omega arith) (sym c.sees.ensures ∙ c.if-sees.false)
