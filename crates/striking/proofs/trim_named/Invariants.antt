use mathlib.Core.Path.{◌≡◌}
use lib.ListN.{length, take}
use Rattle.striking.specs.Named.{Trimming}
use Rattle.striking.proofs.trim_named.Given as goal

abbrev pub invariant-loop-x : goal.invariant-loop-x
invariant-loop-x l = (length l.table ≡ length l.initial.table) × Trimming (take l.x-index l.x-items) l.initial.table l.known l.table l.changed l.trimmed
