-- What writing the places of one row, and putting one row in the place of another, require and ensure. Assumes nothing.
use Rattle.std.specs.Prelude.{◌≡◌, ◌≢◌, Bool, true, List, ℕ, suc, ◌+◌, ◌*◌, ◌<◌, ◌≤◌, length}
use Rattle.model.specs.Words.{bit, word}
use Rattle.model.specs.Domains.{row}
use Rattle.inplace.specs.InTable.{Tidy, Only, Changed, Flag}

-- the first n places after a become those of f; whether one of them differs
pub record Written (T : List ℕ) (a : ℕ) (f : ℕ → ℕ) (n : ℕ) (U : List ℕ) (changed : Bool) : Type 0 where
  pub size : length U ≡ length T
  pub low : (i : ℕ) → i < n → word U (suc (a + i)) ≡ f i
  pub kept : (k : ℕ) → ((i : ℕ) → i < n → k ≢ suc (a + i)) → word U k ≡ word T k
  pub flag : Changed (λ i. word U (suc (a + i))) (λ i. word T (suc (a + i))) n changed

-- row j of R may take the place of the row of string x: both are tidy, and the new one has no other lengths
pub record Replacing (T : List ℕ) (x : ℕ) (R : List ℕ) (j : ℕ) : Type 0 where
  pub fits : 64 * x + 64 ≤ length T
  pub fits-new : 64 * j + 64 ≤ length R
  pub tidy : Tidy (row T x)
  pub tidy-new : Tidy (row R j)
  pub within : (b : ℕ) → bit (word (row R j) 0) b ≡ true → bit (word (row T x) 0) b ≡ true

-- the row of string x is this one; whether it differs
pub record Replaced (T : List ℕ) (x : ℕ) (r : List ℕ) (U : List ℕ) (changed : Bool) : Type 0 where
  pub only : Only T x U
  pub same : row U x ≡ r
  pub flag : Flag (row T x) (row U x) changed
