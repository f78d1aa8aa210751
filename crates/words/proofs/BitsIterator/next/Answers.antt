use Rattle.std.proofs.Common.{rules}
use Rattle.words.proofs.EndLaws.{and_less}
use Rattle.words.proofs.BitsIterator.next.Goals as goal

pub returns-clause-steps : goal.returns-clause-steps
returns-clause-steps c = search (rules, and_less)
