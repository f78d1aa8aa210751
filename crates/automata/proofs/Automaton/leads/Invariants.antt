use Rattle.model.specs.Constraints.{move}
use Rattle.automata.specs.Machine.{state_count, machine}
use Rattle.automata.proofs.SetLaws.{Walked, Hit}
use Rattle.automata.proofs.Automaton.leads.Given as goal

abbrev pub invariant-loop-p : goal.invariant-loop-p
invariant-loop-p l = Walked (state_count l.self.bytes.now) l.from (λ i t. Hit l.from l.into (λ p. move (machine l.self.k l.self.bytes.now) p l.a) i) l.p-iterator.rest 0
