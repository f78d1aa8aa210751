use mathlib.Core.Bool.{true}
use lib.ListN.{take}
use Rattle.striking.specs.Named.{Lengths}
use Rattle.striking.proofs.have_lengths.Given as goal

abbrev pub invariant-loop-x : goal.invariant-loop-x
invariant-loop-x l = Lengths (take l.x-index l.x-items) l.table true
