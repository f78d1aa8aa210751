-- The word of the numbers below n. Assumes nothing.
use mathlib.Core.Path.{◌≡◌, sym, ap, ◌∙◌}
use mathlib.Core.Bool.{true, false≢true}
use Prim.Native.Nat.{ℕ, ◌+◌, ◌-◌, ◌^◌, ◌<◌}
use native.Mathlib.Omega.{arith}
use lib.Dec.{ltb}
use borrow.Author.Tests.{ltb-true, lt-ltb}
use Rattle.model.specs.Words.{bit}
use Rattle.laws.proofs.WordLaws.{zero_bit}
use Rattle.laws.proofs.ShiftLaws.{bit_mask}

pub below_none : ((j : ℕ) → bit 0 j ≡ true → j < 0) × ((j : ℕ) → j < 0 → bit 0 j ≡ true)
below_none = ((λ j q. absurd (false≢true (sym (zero_bit j) ∙ q))), (λ j h. absurd (omega arith)))

pub below-low : (n w : ℕ) → (n ≡ 0 → ⊥) → w ≡ 2 ^ (n - 1 + 1) - 1 → ((j : ℕ) → bit w j ≡ true → j < n) × ((j : ℕ) → j < n → bit w j ≡ true)
below-low n w h e = ((λ j q. ltb-true j n (sym (at j) ∙ q)), (λ j l. at j ∙ lt-ltb j n l))
  where
    at : (j : ℕ) → bit w j ≡ ltb j n
    at j = let z : n - 1 + 1 ≡ n = omega (arith, h) in ap (λ (v : ℕ). bit v j) e ∙ bit_mask (n - 1 + 1) j ∙ ap (ltb j) z
