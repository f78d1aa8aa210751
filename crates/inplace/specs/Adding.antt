-- What adding to the places of a row beside the table ensures. Assumes nothing.
use Rattle.std.specs.Prelude.{◌≡◌, List, ℕ, suc, ◌+◌, ◌<◌, ◌≤◌, length}
use Rattle.std.specs.Int.Bits.{bit_or}
use Rattle.model.specs.Words.{word}
use Rattle.inplace.specs.InTable.{both}

-- s is r, with what n places after a and after b of T both allow added to its places after place c
pub record Added (r : List ℕ) (c : ℕ) (T : List ℕ) (a b n : ℕ) (s : List ℕ) : Type 0 where
  pub size : length s ≡ length r
  pub first : word s 0 ≡ word r 0
  pub done : (i : ℕ) → i < n → word s (suc (c + i)) ≡ bit_or (word r (suc (c + i))) (both T a b i)
  pub before : (k : ℕ) → k < c → word s (suc k) ≡ word r (suc k)
  pub after : (k : ℕ) → c + n ≤ k → word s (suc k) ≡ word r (suc k)
