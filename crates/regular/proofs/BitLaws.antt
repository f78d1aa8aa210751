-- Bits of a word that is there only where a test passes, and bits that two words share. Assumes nothing.
use mathlib.Core.Path.{◌≡◌, refl, sym, ap, ◌∙◌}
use mathlib.Core.Bool.{Bool, true, false, cond, false≢true}
use Prim.Native.Nat.{ℕ, ◌^◌, ◌<◌}
use native.Mathlib.Omega.{arith}
use lib.Bits.{bit_and}
use lib.ListN.{get_or}
use Rattle.model.specs.Words.{bit, bits}
use Rattle.laws.proofs.WordLaws.{zero_bit, bit_high}
use Rattle.laws.proofs.ShiftLaws.{and-bit, of-and-bit}
use Rattle.rows.proofs.TrimLaws.{some-bit}

-- ---- a word where a test passes, and nothing where it does not

pub where_bit : (t : Bool) (s p : ℕ) → t ≡ true → bit s p ≡ true → bit (cond t s 0) p ≡ true
where_bit true s p e b = b
where_bit false s p e b = absurd (false≢true e)

pub of_where_bit : (t : Bool) (s p : ℕ) → bit (cond t s 0) p ≡ true → (t ≡ true) × (bit s p ≡ true)
of_where_bit true s p b = (refl, b)
of_where_bit false s p b = absurd (false≢true (sym (zero_bit p) ∙ b))

-- ---- two words share a bit, or none

pub meeting-bit : (a b : ℕ) → a < 2 ^ 32 → (bit_and a b ≡ 0 → ⊥) → (p : ℕ) × (bit a p ≡ true) × (bit b p ≡ true)
meeting-bit a b h some =
    let small : (p : ℕ) → bit (bit_and a b) p ≡ true → p < 64 = λ p e. let l = bit_high a 32 p h (of-and-bit a b p e).0 in omega arith in
    let p : ℕ = get_or (bits (bit_and a b)) 0 0 in
    let t = of-and-bit a b p (some-bit (bit_and a b) small (omega arith)) in
    (p, t.0, t.1)

pub no-meeting-bit : (a b p : ℕ) → bit_and a b ≡ 0 → bit a p ≡ true → bit b p ≡ true → ⊥
no-meeting-bit a b p e x y = false≢true (sym (zero_bit p) ∙ ap (λ (w : ℕ). bit w p) (sym e) ∙ and-bit a b p x y)
