-- Trimming a row whose filled places are known only as far as its longest length. Assumes nothing.
use mathlib.Core.Path.{◌≡◌, refl, sym, ap, subst, ◌∙◌}
use mathlib.Core.Bool.{Bool, true, false, ◌&&◌, false≢true}
use mathlib.Core.List.{List}
use Prim.Native.Nat.{ℕ, zero, suc, ◌+◌, ◌-◌, ◌≤◌, ◌<◌}
use native.Mathlib.Omega.{arith}
use native.Mathlib.Numerals.{add-one}
use lib.Dec.{eqb, ltb}
use lib.ListN.{length, replicate}
use borrow.Author.Tests.{lt-ltb, ltb-true, ltb-false, eqb-true, eqb-false}
use borrow.Author.Count.{below_more}
use Rattle.model.specs.Words.{bit, word, Words}
use Rattle.words.specs.Ends.{Highest}
use Rattle.rows.specs.Rows.{trimmed}
use Rattle.rows.specs.Parts.{Run, Cut}
use Rattle.rows.proofs.TrimLaws.{short, trim-none, trim-right}
use Rattle.laws.proofs.ListLaws.{and_true, true_and}
use Rattle.laws.proofs.WordLaws.{word_ext, zero_bit, no_bits}
use Rattle.laws.proofs.ShiftLaws.{bit-and, bit_mask}
use Rattle.inplace.specs.InTable.{Tidy}

-- m places each allow a symbol, and the next does not where a length goes past them
pub record Reach (r : List ℕ) (m : ℕ) : Type 0 where
  pub small : m < 64
  pub filled : (i : ℕ) → i < m → 0 < word r (suc i)
  pub stop : (n : ℕ) → bit (word r 0) n ≡ true → m < n → word r (suc m) ≡ 0

run-from : (r : List ℕ) (m fuel : ℕ) → m + fuel ≡ 63 → ((i : ℕ) → i < m → 0 < word r (suc i)) → (k : ℕ) × (m ≤ k) × Run r k
run-from r m zero e f = (m, omega arith, record { small = omega arith; filled = f; stop = λ h. absurd (omega arith) })
run-from r m (suc n) e f = go (eqb (word r (suc m)) 0) refl (run-from r (suc m) n (omega arith))
  where
    go : (t : Bool) → eqb (word r (suc m)) 0 ≡ t → (((i : ℕ) → i < suc m → 0 < word r (suc i)) → (k : ℕ) × (suc m ≤ k) × Run r k) → (k : ℕ) × (m ≤ k) × Run r k
    go true q on = (m, omega arith, record { small = omega arith; filled = f; stop = λ h. eqb-true (word r (suc m)) 0 q })
    go false q on =
        let z = eqb-false (word r (suc m)) 0 q in
        let u = on (rw add-one at (below_more (λ i. 0 < word r (suc i)) m f (omega arith))) in
        let l = u.1 in
        (u.0, omega arith, u.2)

pub short-bit : (r : List ℕ) (m b : ℕ) → bit (short r m) b ≡ (bit (word r 0) b && ltb b (m + 1))
short-bit r m b = rw (bit-and, bit_mask)

pub of-short : (r : List ℕ) (m b : ℕ) → bit (short r m) b ≡ true → (bit (word r 0) b ≡ true) × (b ≤ m)
of-short r m b e =
    let t = and_true (bit (word r 0) b) (ltb b (m + 1)) (sym (short-bit r m b) ∙ e) in
    let k = ltb-true b (m + 1) t.1 in
    (t.0, omega arith)

pub in_short : (r : List ℕ) (m b : ℕ) → bit (word r 0) b ≡ true → b ≤ m → bit (short r m) b ≡ true
in_short r m b e h = short-bit r m b ∙ true_and e (lt-ltb b (m + 1) (omega arith))

pub same_bit : (a b : Bool) → (a ≡ true → b ≡ true) → (b ≡ true → a ≡ true) → a ≡ b
same_bit true b f g = sym (f refl)
same_bit false true f g = g refl
same_bit false false f g = refl

-- no length goes past m
pub whole-short : (r : List ℕ) (m : ℕ) → ((b : ℕ) → bit (word r 0) b ≡ true → b ≤ m) → short r m ≡ word r 0
whole-short r m h = word_ext (short r m) (word r 0) (λ b. same_bit _ _ (λ e. (of-short r m b e).0) (λ e. in_short r m b e (h b e)))

module _ (r : List ℕ) (m : ℕ) (bd : Words r) (reach : Reach r m) (ln : length r ≡ 64) where
  abbrev whole : (k : ℕ) × (m ≤ k) × Run r k
  whole = let s = reach.small in run-from r m (63 - m) (omega arith) reach.filled

  short-same : short r whole.0 ≡ short r m
  short-same = word_ext (short r whole.0) (short r m) (λ b. same_bit _ _ (λ e.
      let t = of-short r whole.0 b e in in_short r m b t.0 (go b t.0 t.1 (ltb m b) refl)) (λ e.
      let t = of-short r m b e in
      let k = t.1 in
      let l = whole.1 in
      in_short r whole.0 b t.0 (omega arith)))
    where
      go : (b : ℕ) → bit (word r 0) b ≡ true → b ≤ whole.0 → (t : Bool) → ltb m b ≡ t → b ≤ m
      go b e h true q =
          let l = ltb-true m b q in
          let z = reach.stop b e l in
          let f = whole.2.filled m (omega arith) in
          absurd (omega arith)
      go b e h false q = ltb-false m b q

  pub reach-none : short r m ≡ 0 → replicate 64 0 ≡ trimmed r
  reach-none z = trim-none r whole.0 bd whole.2 ln (short-same ∙ z)

  module _ (top : ℕ) (high : Highest (short r m) top) (t : List ℕ) (c : Cut r (short r m) top t) where
    pub reach-right : t ≡ trimmed r
    reach-right = trim-right r whole.0 bd whole.2 top (subst (λ (w : ℕ). Highest w top) (sym short-same) high) t (subst (λ (w : ℕ). Cut r w top t) (sym short-same) c) ln

    pub reach-tidy : Tidy t
    reach-tidy =
        let s = (of-short r m top high.here).1 in
        record {
          top = top;
          longest = subst (λ (w : ℕ). Highest w top) (sym c.first) high;
          filled = λ i h. subst (λ (w : ℕ). 0 < w) (sym (c.kept i h)) (reach.filled i (omega arith));
          gone = c.gone;
        }

-- a row without lengths
pub empty-none : (r : List ℕ) → Words r → length r ≡ 64 → word r 0 ≡ 0 → replicate 64 0 ≡ trimmed r
empty-none r bd ln z = reach-none r 0 bd (record { small = omega arith; filled = λ i h. absurd (omega arith); stop = λ n e h. absurd (false≢true (sym (none n) ∙ e)) }) ln
    (no_bits (short r 0) (λ b. go b (bit (short r 0) b) refl))
  where
    none : (b : ℕ) → bit (word r 0) b ≡ false
    none b = ap (λ (w : ℕ). bit w b) z ∙ zero_bit b

    go : (b : ℕ) (t : Bool) → bit (short r 0) b ≡ t → t ≡ false
    go b true e = absurd (false≢true (sym (none b) ∙ (of-short r 0 b e).0))
    go b false e = refl
