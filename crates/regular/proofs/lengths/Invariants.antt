use Rattle.automata.proofs.SetLaws.{Walked}
use Rattle.regular.proofs.RegularLaws.{Ending}
use Rattle.regular.proofs.lengths.Given as goal

abbrev pub invariant-loop-l : goal.invariant-loop-l
invariant-loop-l l = Walked 64 l.allowed (Ending l.allowed l.accepting l.before) l.l-iterator.rest l.r
