-- What the functions of `duration` ensure of places and of lengths. Places are given by index, index i being place i + 1; 1023 is the word of the digits.
-- Assumes nothing.
use Rattle.std.specs.Prelude.{◌≡◌, ◌≢◌, true, cond, ◌&&◌, ◌||◌, List, ℕ, suc, ◌+◌, ◌<◌, ◌≤◌, eqb, ltb}
use Rattle.std.specs.Int.Bits.{bit_and, bit_or}
use Rattle.model.specs.Words.{bit, word}

-- the places of a table after word a
abbrev pub places_after : List ℕ → ℕ → ℕ → ℕ
places_after T a i = word T (suc (a + i))

-- the places from index i up to m each allow a digit, and the one at m, where it is below lim, does not
pub record Stretch (place : ℕ → ℕ) (i lim m : ℕ) : Type 0 where
  pub least : i ≤ m
  pub most : m ≤ lim
  pub filled : (j : ℕ) → i ≤ j → j < m → bit_and (place j) 1023 ≢ 0
  pub stop : m < lim → bit_and (place m) 1023 ≡ 0

-- a point can stand at index whole, with a digit before it, and the digits behind it end at m; or none can, and m is whole
pub record Fraction (place : ℕ → ℕ) (whole lim points m : ℕ) : Type 0 where
  pub least : whole ≤ m
  pub most : m ≤ lim
  pub pointed : whole < m → (1 ≤ whole) × (bit_and (place whole) points ≢ 0) × Stretch place (suc whole) lim m
  pub pointless : m ≡ whole → 1 ≤ whole → whole < lim → bit_and (place whole) points ≡ 0

-- r has the allowed lengths from 1 up to both bounds, without the one that ends with the place behind the whole part
pub record Lengths (allowed most whole end r : ℕ) : Type 0 where
  pub sound : (l : ℕ) → bit r l ≡ true → (bit allowed l ≡ true) × (1 ≤ l) × (l ≤ most) × (l ≤ end) × (l ≢ suc whole)
  pub complete : (l : ℕ) → bit allowed l ≡ true → 1 ≤ l → l ≤ most → l ≤ end → l ≢ suc whole → bit r l ≡ true

-- r is the greatest of these lengths up to whole, or 0
pub record Longest (lengths whole r : ℕ) : Type 0 where
  pub small : r ≤ whole
  pub here : 0 < r → bit lengths r ≡ true
  pub most : (l : ℕ) → bit lengths l ≡ true → l ≤ whole → l ≤ r

-- what a duration may have at an index: a digit, or where it may be, the point
unfoldable pub symbols_at : ℕ → ℕ → ℕ → ℕ → ℕ
symbols_at whole low points i = cond (eqb i whole || (ltb 0 i && ltb (i + 1) low)) (bit_or 1023 points) 1023
