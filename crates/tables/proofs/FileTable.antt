-- The words of the rows in the table that a file's bytes stand for. Assumes nothing.
use mathlib.Core.Path.{◌≡◌, sym}
use mathlib.Core.List.{List, map}
use Prim.Native.Nat.{ℕ, ◌+◌, ◌*◌, ◌<◌}
use native.Mathlib.Omega.{arith}
use Rattle.model.specs.Words.{word}
use Rattle.model.specs.Layout.{little, part}
use Rattle.model.specs.Reading.{pieces}
use Rattle.laws.proofs.ReadingLaws.{table-word}

-- the words of the rows, which come first
pub file-words : (s t : ℕ) (bs : List ℕ) (i : ℕ) → i < 64 * s → little (part (8 * i) 8 bs) ≡ word (map little (pieces (64 * s + t) 8 bs)) i
file-words s t bs i h = sym (table-word (64 * s + t) bs i (omega arith))
