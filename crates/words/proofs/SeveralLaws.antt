-- A word has several bits exactly when it is not the word of its lowest bit. Assumes nothing.
use mathlib.Core.Path.{◌≡◌, refl, sym, ap, subst, ◌∙◌}
use mathlib.Core.Bool.{Bool, true, false, not, false≢true}
use Prim.Native.Nat.{ℕ, ◌^◌, ◌<◌}
use native.Mathlib.Omega.{arith}
use lib.Dec.{eqb}
use borrow.Author.Tests.{eqb-true, eq-eqb}
use Rattle.model.specs.Lists.{select, from, upto}
use Rattle.model.specs.Words.{bit, bits, several}
use Rattle.laws.proofs.WordLaws.{pow_self, pow-only, pow-within, within_antisym, bit_high}
use Rattle.laws.proofs.BitsLaws.{single, two-bits, several_true, several_false}
use Rattle.words.specs.Ends.{Lowest}

pub several-zero : several 0 ≡ false
unfolding several bits upto from select bit
several-zero = refl

pub several-lowest : (w v : ℕ) → w < 2 ^ 64 → Lowest w v → not (eqb w (2 ^ v)) ≡ several w
several-lowest w v h l = go (several w) (eqb w (2 ^ v)) refl refl
  where
    -- the bits of a word that is a power are one
    two : w ≡ 2 ^ v → several w ≡ true → ⊥
    two e q =
        let t = two-bits w (several_true w q) in
        let at : (b : ℕ) → bit w b ≡ true → b ≡ v = λ b p. pow-only v b (ap (λ (x : ℕ). bit x b) (sym e) ∙ p) in
        omega (arith, at t.0 t.2, at t.1 t.3, t.4)

    one : several w ≡ false → w ≡ 2 ^ v
    one q = within_antisym w (2 ^ v)
        (λ b p. subst (λ (x : ℕ). bit (2 ^ v) x ≡ true) (single w v b (several_false w q) l.small (bit_high w 64 b h p) l.here p) (pow_self v))
        (pow-within v w l.here)

    go : (s t : Bool) → several w ≡ s → eqb w (2 ^ v) ≡ t → not t ≡ s
    go true true q e = absurd (two (eqb-true w (2 ^ v) e) q)
    go true false q e = refl
    go false true q e = refl
    go false false q e = absurd (false≢true (sym e ∙ eq-eqb w (2 ^ v) (one q)))
