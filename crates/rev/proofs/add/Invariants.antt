use Rattle.rev.specs.Turned.{Added}
use Rattle.rev.proofs.add.Given as goal

abbrev pub invariant-loop-i : goal.invariant-loop-i
invariant-loop-i l = Added l.t l.a l.b l.l l.initial.r l.i l.r
