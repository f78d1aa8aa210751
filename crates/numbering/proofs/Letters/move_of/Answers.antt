use Rattle.std.proofs.Common.{arith, sym, ◌∙◌}
use Rattle.numbering.proofs.ListedLaws.{move-right, find_at, find_none}
use Rattle.numbering.proofs.Letters.move_of.Goals as goal

pub returns-in-Some : goal.returns-in-Some
returns-in-Some c = move-right c.args.self.now.places _ _ _ _ _ c.args.a _ _ c.ahead-here.ensures (find_at _ _ _ (omega arith) (sym c.find.ensures ∙ c.in-Some.is))

pub returns-in-None : goal.returns-in-None
returns-in-None c = move-right c.args.self.now.places _ _ _ _ _ c.args.a _ _ c.ahead-here.ensures (find_none _ _ (omega arith) (sym c.find.ensures ∙ c.in-None.is))
