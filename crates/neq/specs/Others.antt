-- The strings of a row that differ from a string of another row, and what is left of a row against the one string of another. Assumes nothing.
use Rattle.std.specs.Prelude.{Option, is_some, IfSome, ◌≡◌, ◌≢◌, Bool, true, false, List, ℕ, suc, ◌+◌, ◌*◌, ◌≤◌, ◌<◌, length}
use Rattle.model.specs.Lists.{any}
use Rattle.model.specs.Words.{several, word}
use Rattle.model.specs.Domains.{row}
use Rattle.model.specs.Constraints.{differ}
use Rattle.model.specs.Solutions.{text_bit}
use Rattle.laws.specs.Supported.{InRow, Supports}
use Rattle.inplace.specs.InTable.{Tidy, Only, Flag, zeros}

-- w is a string of x, and differs from some string of y
pub record Against (x y w : List ℕ) : Type 0 where
  pub in_row : InRow x w
  pub other : List ℕ
  pub in_other : InRow y other
  pub apart : differ w other ≡ true

-- i is the first place from start on, of at most l, at which the words after a and after b differ; l where there is none
pub record Alike (T : List ℕ) (a b start l i : ℕ) : Type 0 where
  pub reached : start ≤ i
  pub small : i ≤ l
  pub same : (j : ℕ) → start ≤ j → j < i → word T (suc (a + j)) ≡ word T (suc (b + j))
  pub stop : i < l → word T (suc (a + i)) ≢ word T (suc (b + i))

-- only the row of x differs: it is what its strings use that differ from a string of y, is tidy again, and the flag is right; or no string of x does
pub record Without (T : List ℕ) (x y : ℕ) (U : List ℕ) (r : Option Bool) : Type 0 where
  pub only : Only T x U
  pub some : is_some r ≡ true → Supports (Against (row T x) (row T y)) text_bit 64 (row U x)
  pub tidy : is_some r ≡ true → Tidy (row U x)
  pub flag : IfSome r (λ changed. Flag (row T x) (row U x) changed)
  pub none : is_some r ≡ false → Supports (Against (row T x) (row T y)) text_bit 64 zeros

-- two strings with tidy rows, the second of which stands for one string
pub record OneOther (T : List ℕ) (x y : ℕ) : Type 0 where
  pub fits-x : 64 * x + 64 ≤ length T
  pub fits-y : 64 * y + 64 ≤ length T
  pub tidy-x : Tidy (row T x)
  pub tidy-y : Tidy (row T y)
  pub one : any several (row T y) ≡ false
