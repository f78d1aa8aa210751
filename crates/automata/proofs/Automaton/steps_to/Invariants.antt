use Rattle.automata.specs.Machine.{state_count, machine}
use Rattle.automata.specs.StateSets.{Targets}
use Rattle.automata.proofs.SetLaws.{Walked, ByState}
use Rattle.automata.proofs.Automaton.steps_to.Given as goal

abbrev pub invariant-loop-p : goal.invariant-loop-p
invariant-loop-p l =
    Walked (state_count l.self.bytes.now) l.set (ByState (machine l.self.k l.self.bytes.now) l.self.k l.set l.symbols) l.p-iterator.rest l.r × Targets (machine l.self.k l.self.bytes.now) (state_count l.self.bytes.now) l.self.k l.symbols l.tos
