use Rattle.automata.specs.Machine.{state_count, machine}
use Rattle.automata.specs.Kinds.{OneKind}
use Rattle.automata.proofs.Automaton.alike.Given as goal

abbrev pub invariant-loop-b : goal.invariant-loop-b
invariant-loop-b l = OneKind (machine l.self.k l.self.bytes.now) (state_count l.self.bytes.now) l.self.k l.a l.r
