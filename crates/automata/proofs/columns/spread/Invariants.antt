use Rattle.automata.proofs.KindLaws.{Spreading}
use Rattle.automata.proofs.columns.spread.Given as goal

abbrev pub invariant-loop-a : goal.invariant-loop-a
invariant-loop-a l = Spreading l.initial.ks l.w l.a-iterator.rest l.ks
