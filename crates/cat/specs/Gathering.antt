-- What the functions of the step over several lengths ensure. The choices are gathered in three rows beside the table, R: one for each string. Assumes nothing.
use Rattle.std.specs.Prelude.{◌≡◌, true, List, ℕ, suc, ◌-◌, ◌*◌, ◌^◌, ◌<◌, ◌≤◌}
use Rattle.std.specs.Int.Bits.{bit_or}
use Rattle.model.specs.Words.{bit, word}
use Rattle.model.specs.Domains.{row}
use Rattle.words.specs.Ends.{Lowest}
use Rattle.inplace.specs.InTable.{both}
use Rattle.cat.specs.Splits.{Outside, Supported}
use Rattle.cat.specs.declared.Rows.{Rows}

-- R has the choices whose first string has none of the lengths of rest. The lengths of rest are allowed, and as many places of the first and the third string
-- meet; up to the greatest length before them, the places of the first row are what both allow, and those of the third row have that too.
pub record Gathered (T : List ℕ) (x y z rest last : ℕ) (R : Rows) : Type 0 where
  pub support : Supported (Outside (row T x) (row T y) (row T z) rest) R.x R.y R.z
  pub ahead : (p : ℕ) → bit rest p ≡ true → last ≤ p
  pub allowed : (p : ℕ) → bit rest p ≡ true → bit (word T (64 * x)) p ≡ true
  pub meeting : (p : ℕ) → bit rest p ≡ true → (i : ℕ) → i < p → 0 < both T (64 * z) (64 * x) i
  pub first : (i : ℕ) → i < last → word R.x (suc i) ≡ both T (64 * z) (64 * x) i
  pub ended : (i : ℕ) → last ≤ i → word R.x (suc i) ≡ 0
  pub third : (i : ℕ) → i < last → bit_or (word R.z (suc i)) (both T (64 * z) (64 * x) i) ≡ word R.z (suc i)

-- R has every choice
pub record Complete (T : List ℕ) (x y z : ℕ) (R : Rows) : Type 0 where
  pub support : Supported (Outside (row T x) (row T y) (row T z) 0) R.x R.y R.z

-- the choices of the least length of rest are gathered too
pub record Advanced (T : List ℕ) (x y z last p : ℕ) (R : Rows) (next : ℕ) (S : Rows) : Type 0 where
  pub more : (rest : ℕ) → Lowest rest p → Gathered T x y z rest last R → Gathered T x y z (rest - 2 ^ p) next S
