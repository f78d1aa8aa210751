use Rattle.model.specs.Constraints.{move}
use Rattle.automata.specs.Machine.{machine}
use Rattle.automata.proofs.SetLaws.{Walked, Hit}
use Rattle.automata.proofs.Automaton.enters.Given as goal

abbrev pub invariant-loop-a : goal.invariant-loop-a
invariant-loop-a l = Walked l.self.k l.symbols (λ i t. Hit l.symbols l.set (λ a. move (machine l.self.k l.self.bytes.now) l.p a) i) l.a-iterator.rest 0
