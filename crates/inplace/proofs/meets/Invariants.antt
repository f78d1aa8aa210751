use Rattle.inplace.specs.InTable.{Meets}
use Rattle.inplace.proofs.meets.Given as goal

abbrev pub invariant-loop-m : goal.invariant-loop-m
invariant-loop-m l = Meets l.t l.a l.b l.m l.m
