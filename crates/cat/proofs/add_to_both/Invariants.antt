use Rattle.inplace.specs.Adding.{Added}
use Rattle.cat.proofs.add_to_both.Given as goal

abbrev pub invariant-loop-i : goal.invariant-loop-i
invariant-loop-i l = Added l.initial.r l.c l.t l.a l.b l.i l.r × Added l.initial.s l.d l.t l.a l.b l.i l.s
