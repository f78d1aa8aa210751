-- Sets built place by place are the definitions' unions. Assumes nothing.
use mathlib.Core.Path.{◌≡◌, sym, ap, ap₂, subst, ◌∙◌}
use mathlib.Core.Logic.{⊎_elim}
use mathlib.Core.Bool.{true, false≢true}
use Prim.Native.Nat.{ℕ, zero, suc, ◌+◌, ◌<◌}
use native.Mathlib.Omega.{arith}
use native.Mathlib.Nat.{le_of_suc-le-suc, eq-or-lt_of_le}
use native.Mathlib.Numerals.{add-one}
use lib.Bits.{bit_or}
use Rattle.model.specs.Words.{bit}
use Rattle.laws.proofs.WordLaws.{zero_bit, of-or-bit, or-bit-left, or-bit-right}
use Rattle.numbering.specs.Exploring.{joined}

pub joined_of : (f : ℕ → ℕ) (n q : ℕ) → bit (joined f n) q ≡ true → (p : ℕ) × (p < n) × (bit (f p) q ≡ true)
unfolding joined
joined_of f zero q h = absurd (false≢true (sym (zero_bit q) ∙ h))
joined_of f (suc n) q h = ⊎_elim
    (λ k. let t = joined_of f n q k in let l = t.1 in (t.0, omega arith, t.2))
    (λ k. (n, omega arith, k))
    (of-or-bit (joined f n) (f n) q h)

pub joined_in : (f : ℕ → ℕ) (n q p : ℕ) → p < n → bit (f p) q ≡ true → bit (joined f n) q ≡ true
unfolding joined
joined_in f zero q p l h = absurd (omega arith)
joined_in f (suc n) q p l h = ⊎_elim
    (λ e. or-bit-right (joined f n) (f n) q (subst (λ (x : ℕ). bit (f x) q ≡ true) e h))
    (λ g. or-bit-left (joined f n) (f n) q (joined_in f n q p g h))
    (eq-or-lt_of_le (le_of_suc-le-suc l))

pub joined_step : (f : ℕ → ℕ) (n r x : ℕ) → r ≡ joined f n → x ≡ f n → bit_or r x ≡ joined f (n + 1)
unfolding joined
joined_step f n r x e g = ap₂ bit_or e g ∙ ap (joined f) (sym (add-one n))
