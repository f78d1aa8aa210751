use mathlib.Core.List.{◌++◌}
use Prim.Native.Nat.{◌+◌}
use lib.ListN.{take, drop}
use Rattle.laws.proofs.SliceLaws.{Copied}
use Rattle.room.proofs.copy_within.Given as goal

abbrev pub invariant-loop-i : goal.invariant-loop-i
invariant-loop-i l = Copied (take l.to l.initial.room ++ take l.n (drop l.from l.initial.room)) l.initial.room (l.to + l.i) l.room
