-- A turn as code makes it: what waits is the bits of a word, of which a turn takes one and may put others in. Assumes nothing.
use mathlib.Core.Path.{◌≡◌, refl, sym, ap, subst, ◌∙◌}
use mathlib.Core.Logic.{◌≢◌}
use mathlib.Core.Bool.{Bool, true, false, not, false≢true}
use mathlib.Core.List.{List, [], ◌∷◌}
use Prim.Native.Nat.{ℕ, zero, suc, ◌-◌, ◌^◌, ◌<◌}
use native.Mathlib.Omega.{arith}
use lib.Bits.{bit_or}
use lib.Dec.{eqb, leb}
use lib.ListN.{length, get_or}
use borrow.Author.Tests.{eqb-true, eqb-false, eq-eqb, ne_eqb, leb-true, leb-false}
use Rattle.model.specs.Words.{bit, bits, word, Words, size}
use Rattle.model.specs.Domains.{owner}
use Rattle.model.specs.Constraints.{Problem, Constraint, always, variables}
use Rattle.model.specs.Support.{touches, narrowed}
use Rattle.laws.specs.Inclusion.{In, Below}
use Rattle.laws.proofs.ListLaws.{and_true, true_and, never_true}
use Rattle.laws.proofs.WordLaws.{zero_bit, or-bit-left, or-bit-right, bit-sub, sub_within}
use Rattle.laws.proofs.TableLaws.{below_of, size-eq}
use Rattle.laws.proofs.SupportLaws.{touched}
use Rattle.shortcuts.specs.Waiting.{Running}

-- ---- a turn that wakes enough

-- what waits as the bits of a number: step j is taken out, and those of another number are put in
pub pending_still : (p j more d : ℕ) → bit p j ≡ true → d ≢ j → bit p d ≡ true → bit (bit_or (p - 2 ^ j) more) d ≡ true
pending_still p j more d h ne q = or-bit-left (p - 2 ^ j) more d (bit-sub p j d h ∙ true_and q (ap not (ne_eqb j d (λ e. ne (sym e)))))

pub pending_woken : (p j more d : ℕ) → bit more d ≡ true → bit (bit_or (p - 2 ^ j) more) d ≡ true
pending_woken p j more d q = or-bit-right (p - 2 ^ j) more d q

-- a turn that strikes nothing: step j no longer waits, and nothing is woken
pub running-quiet : (P : Problem) (T U : List ℕ) (waits waits' : ℕ → Bool) (j : ℕ) → Running P T U waits → narrowed P (get_or P.constraints j (always 0)) U ≡ U
    → ((d : ℕ) → d < length P.constraints → d ≢ j → waits d ≡ true → waits' d ≡ true) → Running P T U waits'
running-quiet P T U waits waits' j r f still = record { under = r.under; above = r.above; trimmed = r.trimmed; resting = record { rests = λ d h q. go d h q (eqb d j) refl } }
  where
    go : (d : ℕ) → d < length P.constraints → waits' d ≡ false → (t : Bool) → eqb d j ≡ t → narrowed P (get_or P.constraints d (always 0)) U ≡ U
    go d h q true e = subst (λ (i : ℕ). narrowed P (get_or P.constraints i (always 0)) U ≡ U) (sym (eqb-true d j e)) f
    go d h q false e = r.resting.rests d h (never_true (waits d) (λ t. false≢true (sym q ∙ still d h (eqb-false d j e) t)))

-- the start of a child: enough that the constraints that name the variable of word k wait
pub woken-named : (P : Problem) (c : Constraint) (k : ℕ) (w : Bool) → (In (owner P.strings k) (variables c) → w ≡ true) → w ≡ false → touches P c k ≡ false
woken-named P c k w f q = never_true (touches P c k) (λ t. false≢true (sym q ∙ f (touched P c k t)))

-- ---- what waits as the bits of a number: the measure of the loop is 65 for each bit of the table, and 1 for each step that waits

pub fewer-bits : (w b : ℕ) → b < 64 → ((c : ℕ) → bit w c ≡ true → c < 64) → bit w b ≡ true → length (bits (w - 2 ^ b)) < length (bits w)
unfolding size
fewer-bits w b h bd here = go (leb (length (bits w)) (length (bits (w - 2 ^ b)))) refl
  where
    one : Below ((w - 2 ^ b) ∷ []) (w ∷ [])
    one = below_of ((w - 2 ^ b) ∷ []) (w ∷ []) refl (elim [ zero ↦ λ l. sub_within w b here | suc i ↦ λ l. absurd (omega arith) ])

    small : Words (w ∷ [])
    small = elim [ zero ↦ bd | suc i ↦ λ c q. go' i c q ]
      where
        go' : (i c : ℕ) → bit (word (w ∷ []) (suc i)) c ≡ true → c < 64
        go' i c q = absurd (false≢true (sym (zero_bit c) ∙ q))

    go : (t : Bool) → leb (length (bits w)) (length (bits (w - 2 ^ b))) ≡ t → length (bits (w - 2 ^ b)) < length (bits w)
    go true e =
        let l = leb-true (length (bits w)) (length (bits (w - 2 ^ b))) e in
        let back = size-eq ((w - 2 ^ b) ∷ []) (w ∷ []) one small (omega arith) in
        let q = (and_true (bit w b) (not (eqb b b)) (sym (bit-sub w b b here) ∙ back.within 0 b here)).1 in
        absurd (false≢true (ap not (sym (eq-eqb b b refl)) ∙ q))
    go false e = leb-false (length (bits w)) (length (bits (w - 2 ^ b))) e
