-- After j turns the reader stands behind j records of the bytes, and they are constraints.
use mathlib.Core.Path.{◌≡◌}
use Prim.Native.Nat.{ℕ, ◌-◌, ◌*◌}
use lib.ListN.{length}
use Rattle.records.proofs.RecordRefusalLaws.{Decodes}
use Rattle.records.proofs.all_stand.Given as goal

abbrev pub invariant-loop-reader : goal.invariant-loop-reader
invariant-loop-reader l = (j : ℕ) × (l.reader.bytes.now ≡ l.bytes) × (l.reader.at ≡ 4 * j) × Decodes l.p.s l.p.t l.p.d l.bytes j

abbrev pub decreases-loop-reader : goal.decreases-loop-reader
decreases-loop-reader l = length l.bytes - l.reader.at
