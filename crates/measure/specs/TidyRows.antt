-- The table that `measure` works on. Assumes nothing.
use Rattle.std.specs.Prelude.{◌≡◌, ℕ, ◌<◌, List, length}
use Rattle.model.specs.Domains.{row}
use Rattle.inplace.specs.InTable.{Tidy}

-- a table of three strings and a number, in which the rows of the first n strings are tidy
pub record TidyRows (n : ℕ) (T : List ℕ) : Type 0 where
  pub size : length T ≡ 193
  pub tidy : (x : ℕ) → x < n → Tidy (row T x)
