use Rattle.automata.proofs.AutomataWalkLaws.{Reached}
use Rattle.automata.proofs.walk.start.Given as goal

abbrev pub invariant-loop-j : goal.invariant-loop-j
invariant-loop-j l = Reached l.k l.bytes l.j l.at
