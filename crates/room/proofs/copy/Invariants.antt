use Rattle.laws.proofs.SliceLaws.{Copied}
use Rattle.room.proofs.copy.Given as goal

abbrev pub invariant-loop-i : goal.invariant-loop-i
invariant-loop-i l = Copied l.from l.initial.to l.i l.to
