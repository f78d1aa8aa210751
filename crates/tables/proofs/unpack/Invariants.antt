use mathlib.Core.List.{map}
use lib.ListN.{length}
use Rattle.model.specs.Layout.{little}
use Rattle.model.specs.Reading.{pieces}
use Rattle.laws.proofs.SliceLaws.{Copied}
use Rattle.tables.proofs.unpack.Given as goal

abbrev pub invariant-loop-i : goal.invariant-loop-i
invariant-loop-i l = Copied (map little (pieces (length l.initial.table) 8 l.bytes)) l.initial.table l.i l.table
