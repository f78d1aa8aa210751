-- The turns of a loop that counts the places that meet. Assumes nothing.
use mathlib.Core.Path.{◌≡◌, ap₂}
use mathlib.Core.List.{List}
use Prim.Native.Nat.{ℕ, suc, ◌+◌}
use native.Mathlib.Omega.{arith}
use lib.Bits.{bit_and}
use Rattle.model.specs.Words.{word}
use Rattle.inplace.specs.InTable.{both}

pub both_word : (T : List ℕ) (a b m : ℕ) → bit_and (word T (a + m + 1)) (word T (b + m + 1)) ≡ both T a b m
both_word T a b m =
    let ea : a + m + 1 ≡ suc (a + m) = omega arith in
    let eb : b + m + 1 ≡ suc (b + m) = omega arith in
    ap₂ (λ (i j : ℕ). bit_and (word T i) (word T j)) ea eb
