-- Parts of a row, place by place; index i is place i + 1. Assumes nothing.
use Rattle.std.specs.Prelude.{◌≡◌, List, ℕ, suc, ◌+◌, ◌<◌, ◌≤◌, length}
use Rattle.model.specs.Words.{word}

-- m places from the first on each allow a symbol, and the next does not
pub record Run (row : List ℕ) (m : ℕ) : Type 0 where
  pub small : m < 64
  pub filled : (i : ℕ) → i < m → 0 < word row (suc i)
  pub stop : m < 63 → word row (suc m) ≡ 0

-- r has these lengths, and row's symbols up to place top
pub record Cut (row : List ℕ) (lengths top : ℕ) (r : List ℕ) : Type 0 where
  pub size : length r ≡ 64
  pub first : word r 0 ≡ lengths
  pub kept : (i : ℕ) → i < top → word r (suc i) ≡ word row (suc i)
  pub gone : (i : ℕ) → top ≤ i → word r (suc i) ≡ 0

-- r has these lengths, and t's n places after off
pub record Window (t : List ℕ) (lengths off n : ℕ) (r : List ℕ) : Type 0 where
  pub size : length r ≡ 64
  pub first : word r 0 ≡ lengths
  pub kept : (i : ℕ) → i < n → word r (suc i) ≡ word t (suc (off + i))
  pub gone : (i : ℕ) → n ≤ i → word r (suc i) ≡ 0
