use Rattle.std.proofs.Common.{List, ℕ, ◌*◌}
use Rattle.tables.specs.Low.{Gives}
use Rattle.tables.proofs.LowLaws.{LowTo}
use Rattle.tables.proofs.rows_low.Given as goal

abbrev pub invariant-loop-i : goal.invariant-loop-i
invariant-loop-i g l = (T : List ℕ) → Gives (goal.F-post g l.word) (64 * l.s) T → LowTo l.k T l.i
