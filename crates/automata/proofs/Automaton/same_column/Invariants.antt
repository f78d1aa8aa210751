use Rattle.automata.specs.Machine.{machine}
use Rattle.automata.specs.Kinds.{Alike}
use Rattle.automata.proofs.Automaton.same_column.Given as goal

abbrev pub invariant-loop-p : goal.invariant-loop-p
invariant-loop-p l = Alike (machine l.self.k l.self.bytes.now) l.p l.a l.b
