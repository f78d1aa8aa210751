use Rattle.automata.specs.Machine.{machine}
use Rattle.automata.specs.Kinds.{Total}
use Rattle.automata.proofs.Automaton.lacks.Given as goal

abbrev pub invariant-loop-p : goal.invariant-loop-p
invariant-loop-p l = Total (machine l.self.k l.self.bytes.now) l.p l.a
