use Rattle.automata.proofs.KindLaws.{no-words-firsts}
use Rattle.automata.proofs.columns.firsts.Goals as goal

pub returns-in-Some : goal.returns-in-Some
returns-in-Some c = rw c.in-Some.is c.firsts_of.ensures

pub returns-in-None : goal.returns-in-None
returns-in-None c = rw c.in-None.is (no-words-firsts _)
