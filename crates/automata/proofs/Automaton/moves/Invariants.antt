use Rattle.automata.specs.Machine.{machine}
use Rattle.automata.proofs.SetLaws.{Walked, BySymbol}
use Rattle.automata.proofs.Automaton.moves.Given as goal

abbrev pub invariant-loop-a : goal.invariant-loop-a
invariant-loop-a l = Walked l.self.k l.symbols (BySymbol (machine l.self.k l.self.bytes.now) l.p l.symbols) l.a-iterator.rest l.r
