use Rattle.inplace.specs.Adding.{Added}
use Rattle.inplace.proofs.add.Given as goal

abbrev pub invariant-loop-i : goal.invariant-loop-i
invariant-loop-i l = Added l.initial.r l.c l.t l.a l.b l.i l.r
