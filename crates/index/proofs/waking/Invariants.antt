use lib.ListN.{length}
use Rattle.index.proofs.WakingLaws.{Woken}
use Rattle.index.proofs.waking.Given as goal

abbrev pub invariant-loop-i : goal.invariant-loop-i
invariant-loop-i l =
    (goal.iterator-loop-i).can_next l.i-iterator × (goal.iterator-loop-i).is_finite l.i-iterator
    × Woken l.s l.ix l.fn.r l.fn.changed (length l.yielded) l.woken
