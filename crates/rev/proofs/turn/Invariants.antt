use Rattle.rev.specs.Turned.{Turning}
use Rattle.rev.proofs.turn.Given as goal

abbrev pub invariant-loop-m : goal.invariant-loop-m
invariant-loop-m l = Turning l.initial.t l.a l.b l.l l.t l.m l.changed
