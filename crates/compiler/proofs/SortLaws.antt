-- The places of each symbol: the places of a set that have the symbol are those that the set shares with them. Assumes nothing.
use mathlib.Core.Path.{◌≡◌, refl, sym, ap, ◌∙◌}
use mathlib.Core.Logic.{⊎_elim}
use mathlib.Core.Bool.{Bool, true, false, cond, ◌&&◌, false≢true}
use mathlib.Core.List.{List}
use Prim.Native.Nat.{ℕ, ◌+◌, ◌-◌, ◌^◌, ◌≤◌, ◌<◌}
use native.Mathlib.Omega.{arith}
use native.Mathlib.Nat.{eq-or-lt_of_le}
use lib.Bits.{bit_and, bit_or}
use lib.Dec.{eqb, leb}
use lib.ListN.{length, get_or, set, replicate, length-set, length-replicate, get_or-eq_default}
use lib.Seq.{get_or-set_same, get_or-set_other}
use borrow.Author.Tests.{eqb-true, eqb-false, leb-true}
use Rattle.model.specs.Words.{bit}
use Rattle.model.specs.PatternText.{symbol_of, symbol_at}
use Rattle.model.specs.PatternStates.{having}
use Rattle.laws.proofs.ListLaws.{and_true, get_or-zeros}
use Rattle.laws.proofs.WordLaws.{zero_bit, of-or-bit, or-bit-left, or-bit-right, pow_self, pow-only, within_antisym}
use Rattle.laws.proofs.ShiftLaws.{and-bit, of-and-bit}
use Rattle.patterns.proofs.StateLaws.{of-having, in_having}
use Rattle.compiler.specs.Answers.{Sorted}

-- ---- the symbol at a place

pub symbol-in : (s : List ℕ) (p x r : ℕ) → x ≡ get_or s p 0 → r ≡ symbol_of x → r ≡ symbol_at s p
unfolding symbol_at
symbol-in s p x r e h = h ∙ ap symbol_of e

pub symbol-past : (s : List ℕ) (p : ℕ) → length s ≤ p → 39 ≡ symbol_at s p
unfolding symbol_at symbol_of
symbol-past s p l = rw (get_or-eq_default s 0 l)

-- no symbol of a letter is above 38, and 39 stands for a byte that is none
symbol-most : (b : ℕ) → symbol_of b ≤ 39
unfolding symbol_of
symbol-most b = digit (leb 48 b && leb b 57) refl
  where
    others : (t u : Bool) → cond t 37 (cond u 38 39) ≤ 39
    others true u = omega arith
    others false true = omega arith
    others false false = omega arith

    letter : (t : Bool) → (leb 97 b && leb b 122) ≡ t → cond t (b - 86) (cond (eqb b 45) 37 (cond (eqb b 47) 38 39)) ≤ 39
    letter true e = let l = leb-true b 122 (and_true (leb 97 b) (leb b 122) e).1 in omega arith
    letter false e = others (eqb b 45) (eqb b 47)

    dot : (t : Bool) → cond t 10 (cond (leb 97 b && leb b 122) (b - 86) (cond (eqb b 45) 37 (cond (eqb b 47) 38 39))) ≤ 39
    dot true = omega arith
    dot false = letter (leb 97 b && leb b 122) refl

    digit : (t : Bool) → (leb 48 b && leb b 57) ≡ t
        → cond t (b - 48) (cond (eqb b 46) 10 (cond (leb 97 b && leb b 122) (b - 86) (cond (eqb b 45) 37 (cond (eqb b 47) 38 39)))) ≤ 39
    digit true e = let l = leb-true b 57 (and_true (leb 48 b) (leb b 57) e).1 in omega arith
    digit false e = dot (eqb b 46)

pub symbol-below : (s : List ℕ) (p r : ℕ) → r ≡ symbol_at s p → r < 64
unfolding symbol_at
symbol-below s p r e = let l = symbol-most (get_or s p 0) in omega arith

-- ---- the loop over the places

module _ (s : List ℕ) where
  pub sorted_start : (P : List ℕ) → P ≡ replicate 64 0 → Sorted s 0 P
  sorted_start P e = record {
    size = ap length e ∙ length-replicate {A = ℕ} 64 0;
    sound = λ a p h. absurd (false≢true (sym (zero_bit p) ∙ ap (λ (w : ℕ). bit w p) (sym (zeros a)) ∙ h));
    complete = λ p l. absurd (omega arith);
  }
    where
      zeros : (a : ℕ) → get_or P a 0 ≡ 0
      zeros a = ap (λ (Q : List ℕ). get_or Q a 0) e ∙ get_or-zeros 64 a

  pub sorted_step : (i : ℕ) (P : List ℕ) (b o : ℕ) → Sorted s i P → b ≡ symbol_at s i → o ≡ 2 ^ i → Sorted s (i + 1) (set P b (bit_or (get_or P b 0) o))
  sorted_step i P b o h e k =
      record {
        size = length-set P b (bit_or (get_or P b 0) o) ∙ h.size;
        sound = λ a p g. sound a p (eqb a b) refl g;
        complete = λ p l. complete p l (eqb (symbol_at s p) b) refl;
      }
    where
      small : b < 64
      small = symbol-below s i b e

      new : get_or (set P b (bit_or (get_or P b 0) o)) b 0 ≡ bit_or (get_or P b 0) o
      new = let n = h.size in let l = small in get_or-set_same P b (bit_or (get_or P b 0) o) 0 (omega arith)

      old : (a : ℕ) → eqb a b ≡ false → get_or (set P b (bit_or (get_or P b 0) o)) a 0 ≡ get_or P a 0
      old a q = let n = eqb-false a b q in get_or-set_other P b a (bit_or (get_or P b 0) o) 0 (λ x. n x)

      sound : (a p : ℕ) (t : Bool) → eqb a b ≡ t → bit (get_or (set P b (bit_or (get_or P b 0) o)) a 0) p ≡ true → (p < i + 1) × (symbol_at s p ≡ a)
      sound a p true q g =
          let same = eqb-true a b q in
          ⊎_elim
          (λ x. let t = h.sound b p x in let l = t.0 in (omega arith, t.1 ∙ sym same))
          (λ x. let l = pow-only i p (ap (λ (w : ℕ). bit w p) (sym k) ∙ x) in (omega arith, ap (symbol_at s) l ∙ sym e ∙ sym same))
          (of-or-bit (get_or P b 0) o p (ap (λ (w : ℕ). bit w p) (sym (ap (λ (c : ℕ). get_or (set P b (bit_or (get_or P b 0) o)) c 0) same ∙ new)) ∙ g))
      sound a p false q g = let t = h.sound a p (ap (λ (w : ℕ). bit w p) (sym (old a q)) ∙ g) in let l = t.0 in (omega arith, t.1)

      complete : (p : ℕ) → p < i + 1 → (t : Bool) → eqb (symbol_at s p) b ≡ t → bit (get_or (set P b (bit_or (get_or P b 0) o)) (symbol_at s p) 0) p ≡ true
      complete p l true q =
          let same = eqb-true (symbol_at s p) b q in
          ap (λ (c : ℕ). bit (get_or (set P b (bit_or (get_or P b 0) o)) c 0) p) same
          ∙ ap (λ (w : ℕ). bit w p) new
          ∙ ⊎_elim
          (λ x. or-bit-right (get_or P b 0) o p (ap (λ (w : ℕ). bit w p) k ∙ ap (bit (2 ^ i)) x ∙ pow_self i))
          (λ x. or-bit-left (get_or P b 0) o p (ap (λ (c : ℕ). bit (get_or P c 0) p) (sym same) ∙ h.complete p x))
          (eq-or-lt_of_le {n = p} {m = i} (omega arith))
      complete p l false q = ⊎_elim
          (λ x. absurd (eqb-false (symbol_at s p) b q (ap (symbol_at s) x ∙ sym e)))
          (λ x. ap (λ (w : ℕ). bit w p) (old (symbol_at s p) q) ∙ h.complete p x)
          (eq-or-lt_of_le {n = p} {m = i} (omega arith))

  -- the places of a set whose letter has the symbol
  pub sorted_having : (P : List ℕ) → Sorted s 64 P → (a w : ℕ) → bit_and w (get_or P a 0) ≡ having (symbol_at s) a w
  sorted_having P h a w = within_antisym _ _
      (λ q g.
      let t = of-and-bit w (get_or P a 0) q g in
      let u = h.sound a q t.1 in
      in_having (symbol_at s) a w q t.0 u.0 u.1)
      (λ q g.
      let t = of-having (symbol_at s) a w q g in
      and-bit w (get_or P a 0) q t.0 (ap (λ (c : ℕ). bit (get_or P c 0) q) (sym t.2) ∙ h.complete q t.1))
