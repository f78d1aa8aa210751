use Rattle.inplace.specs.InTable.{Meeting}
use Rattle.inplace.proofs.meet.Given as goal

abbrev pub invariant-loop-m : goal.invariant-loop-m
invariant-loop-m l = Meeting l.initial.t l.a l.b l.t l.m l.x l.y
