use lib.ListN.{take}
use Rattle.index.specs.Joining.{Joined}
use Rattle.index.proofs.join.Given as goal

abbrev pub invariant-loop-i : goal.invariant-loop-i
invariant-loop-i l = Joined (take l.i-index l.i-items) l.b l.initial.ix l.ix
