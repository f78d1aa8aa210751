use Rattle.std.proofs.Common.{rules}
use Rattle.automata.proofs.KindLaws.{no-words-all}
use Rattle.automata.proofs.columns.all_of.Goals as goal

pub returns-in-Some : goal.returns-in-Some
returns-in-Some c = rw c.in-Some.is c.all_kinds_of.ensures

pub returns-in-None : goal.returns-in-None
returns-in-None c = rw c.in-None.is (no-words-all _ (search rules))
