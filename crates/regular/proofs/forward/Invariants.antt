use Rattle.std.proofs.Common.{◌≡◌, ◌+◌, length}
use Rattle.model.specs.Domains.{row}
use Rattle.regular.specs.PlaceSets.{Forward}
use Rattle.regular.specs.Asks.{machine_of, Forwards}
use Rattle.regular.proofs.forward.Given as goal

abbrev pub invariant-loop-i : goal.invariant-loop-i
invariant-loop-i l = (length l.sets ≡ 64) × Forward (machine_of l.asked) (row l.t l.x) (l.i + 1) l.sets × Forwards l.asked l.last l.moved
