use Rattle.automata.specs.Machine.{state_count, machine}
use Rattle.automata.proofs.SetLaws.{Walked}
use Rattle.regular.proofs.RegularLaws.{Leading}
use Rattle.regular.proofs.symbols.Given as goal

abbrev pub invariant-loop-s : goal.invariant-loop-s
invariant-loop-s l = Walked l.a.k l.allowed (Leading (machine l.a.k l.a.bytes.now) (state_count l.a.bytes.now) l.allowed l.before l.after) l.s-iterator.rest l.r
