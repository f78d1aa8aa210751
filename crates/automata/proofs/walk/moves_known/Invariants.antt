use Rattle.automata.proofs.AutomataWalkLaws.{Greatest}
use Rattle.automata.proofs.walk.moves_known.Given as goal

abbrev pub invariant-loop-b : goal.invariant-loop-b
invariant-loop-b l = Greatest l.d l.b-index l.top
