use Rattle.automata.specs.Machine.{state_count, machine}
use Rattle.automata.proofs.SetLaws.{Walked, ByEntering}
use Rattle.automata.proofs.Automaton.entering.Given as goal

abbrev pub invariant-loop-p : goal.invariant-loop-p
invariant-loop-p l = Walked (state_count l.self.bytes.now) l.from (ByEntering (machine l.self.k l.self.bytes.now) l.self.k l.from l.into l.symbols) l.p-iterator.rest l.r
