use Rattle.compiler.proofs.SortLaws.{symbol-in, symbol-past}
use Rattle.compiler.proofs.symbol_at.Goals as goal

pub returns-in-Some : goal.returns-in-Some
returns-in-Some c = symbol-in _ _ _ _ (c.in-Some.ensures.lookup.3.1 0) c.symbol_of.ensures

pub returns-in-None : goal.returns-in-None
returns-in-None c = symbol-past _ _ c.in-None.ensures.lookup.3
