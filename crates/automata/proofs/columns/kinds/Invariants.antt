use Rattle.automata.proofs.KindLaws.{Finding}
use Rattle.automata.proofs.columns.kinds.Given as goal

abbrev pub invariant-loop-i : goal.invariant-loop-i
invariant-loop-i l = Finding l.k l.bytes l.i l.ks
