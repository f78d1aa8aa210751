use Prim.Native.Nat.{◌*◌}
use mathlib.Core.List.{map}
use lib.ListN.{take}
use Rattle.striking.specs.Named.{Holds}
use Rattle.striking.proofs.holds.Given as goal

abbrev pub invariant-loop-x : goal.invariant-loop-x
invariant-loop-x l = Holds (map (λ x. 64 * x) (take l.x-index l.x-items)) l.table l.some
