use Rattle.std.proofs.Common.{◌^◌, ◌<◌}
use Rattle.automata.specs.Machine.{machine}
use Rattle.automata.proofs.SetLaws.{Walked}
use Rattle.automata.proofs.TargetLaws.{ByInto}
use Rattle.automata.proofs.Automaton.by.Given as goal

abbrev pub invariant-loop-a : goal.invariant-loop-a
invariant-loop-a l = (l.into < 2 ^ 32) × Walked l.self.k l.symbols (ByInto (machine l.self.k l.self.bytes.now) l.p l.into l.symbols) l.a-iterator.rest l.r
