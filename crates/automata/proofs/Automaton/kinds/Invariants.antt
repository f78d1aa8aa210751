use Rattle.automata.specs.Machine.{state_count, machine}
use Rattle.std.proofs.Common.{◌≡◌, length}
use Rattle.automata.specs.Kinds.{Partly}
use Rattle.automata.proofs.Automaton.kinds.Given as goal

abbrev pub invariant-loop-a : goal.invariant-loop-a
invariant-loop-a l = Partly (machine l.self.k l.self.bytes.now) (state_count l.self.bytes.now) l.self.k l.ks l.a × (length l.ks ≡ 65)
