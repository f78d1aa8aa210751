-- The strings that a step of Cat names. Assumes nothing.
use Rattle.std.specs.Prelude.{◌≡◌, ◌≢◌, List, ℕ, ◌+◌, ◌*◌, ◌^◌, ◌<◌, ◌≤◌, length}
use Rattle.model.specs.Words.{word}
use Rattle.model.specs.Domains.{row}
use Rattle.inplace.specs.InTable.{Tidy}

-- three different strings of a table, each tidy
pub record Strings (T : List ℕ) (x y z : ℕ) : Type 0 where
  pub fits-x : 64 * x + 64 ≤ length T
  pub fits-y : 64 * y + 64 ≤ length T
  pub fits-z : 64 * z + 64 ≤ length T
  pub y≢x : y ≢ x
  pub z≢x : z ≢ x
  pub z≢y : z ≢ y
  pub tidy-x : Tidy (row T x)
  pub tidy-y : Tidy (row T y)
  pub tidy-z : Tidy (row T z)

-- and the first has p symbols
pub record Decided (T : List ℕ) (x y z p : ℕ) : Type 0 where
  pub strings : Strings T x y z
  pub small : p < 64
  pub one : word T (64 * x) ≡ 2 ^ p
