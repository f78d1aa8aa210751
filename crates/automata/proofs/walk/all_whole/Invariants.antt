use Rattle.automata.proofs.AutomataWalkLaws.{Walked}
use Rattle.automata.proofs.walk.all_whole.Given as goal

abbrev pub invariant-loop-i : goal.invariant-loop-i
invariant-loop-i l = Walked l.k l.d l.bytes l.i l.at
