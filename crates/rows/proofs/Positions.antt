-- What holds of the first few positions holds below their number. Assumes nothing.
use Prim.Native.Nat.{ℕ, zero, suc, ◌<◌}
use native.Mathlib.Omega.{arith}

pub below_one : (Q : ℕ → Type 0) → Q 0 → (z : ℕ) → z < 1 → Q z
below_one Q a zero h = a
below_one Q a (suc z) h = absurd (omega arith)

pub below_two : (Q : ℕ → Type 0) → Q 0 → Q 1 → (z : ℕ) → z < 2 → Q z
below_two Q a b zero h = a
below_two Q a b (suc zero) h = b
below_two Q a b (suc (suc z)) h = absurd (omega arith)

pub below_three : (Q : ℕ → Type 0) → Q 0 → Q 1 → Q 2 → (z : ℕ) → z < 3 → Q z
below_three Q a b c zero h = a
below_three Q a b c (suc zero) h = b
below_three Q a b c (suc (suc zero)) h = c
below_three Q a b c (suc (suc (suc z))) h = absurd (omega arith)
