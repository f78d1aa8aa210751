-- Refusals 6 and 10: testing every word i below 64 s, length words aside, is `symbols_below`. Assumes nothing.
use mathlib.Core.Path.{◌≡◌, refl, sym, ap, ◌∙◌}
use mathlib.Core.Bool.{Bool, true, false, false≢true}
use mathlib.Core.List.{List}
use Prim.Native.Nat.{ℕ, ◌+◌, ◌*◌, ◌/◌, ◌%◌, ◌<◌}
use native.Mathlib.Omega.{arith}
use borrow.Author.Tests.{eq-eqb, ne_eqb}
use borrow.Author.Count.{below_more}
use Rattle.model.specs.Lists.{from, upto}
use Rattle.model.specs.Words.{word, none_from}
use Rattle.model.specs.Reading.{symbols_below}
use Rattle.laws.proofs.ListLaws.{of-all, in_all, of-from, in_from, of-upto, in_upto}
use Rattle.tables.specs.Low.{low_at}

-- ---- one word of a row

pub length-word-low : (k i w : ℕ) → i % 64 ≡ 0 → low_at k i w ≡ true
unfolding low_at
length-word-low k i w e = rw (eq-eqb (i % 64) 0 e)

pub symbol-word-low : (k i w : ℕ) → (i % 64 ≡ 0 → ⊥) → low_at k i w ≡ none_from k w
unfolding low_at
symbol-word-low k i w n = rw (ne_eqb (i % 64) 0 n)

-- ---- the words of s rows, one after the other

-- the words of T before word i have passed the test
pub record LowTo (k : ℕ) (T : List ℕ) (i : ℕ) : Type 0 where
  pub passed : (j : ℕ) → j < i → low_at k j (word T j) ≡ true

pub low-start : (k : ℕ) (T : List ℕ) → LowTo k T 0
low-start k T = record { passed = λ j h. absurd (omega arith) }

-- a turn whose word w passes
pub low_step : (k : ℕ) (T : List ℕ) (i : ℕ) (w : ℕ) (r : Bool) → LowTo k T i → w ≡ word T i → r ≡ low_at k i w → r ≡ true → LowTo k T (i + 1)
low_step k T i w r l e q n = record { passed = below_more _ _ l.passed (ap (low_at k i) (sym e) ∙ sym q ∙ n) }

module _ (k s : ℕ) (T : List ℕ) where
  -- every word has passed
  pub all-low : LowTo k T (64 * s) → symbols_below k s T ≡ true
  unfolding symbols_below
  all-low l = in_all _ (upto s) (λ x m. in_all _ (from 1 63) (λ p n.
      let a = of-upto s m in
      let b = of-from 1 63 n in
      let h : 64 * x + p < 64 * s = omega arith in
      let e = symbol-word-low k (64 * x + p) (word T (64 * x + p)) (λ z. omega arith) in
      sym e ∙ l.passed (64 * x + p) h))

  -- some word w has not
  pub some-high : (i : ℕ) (w : ℕ) (r : Bool) → i < 64 * s → w ≡ word T i → r ≡ low_at k i w → r ≡ false → symbols_below k s T ≡ false
  unfolding symbols_below
  some-high i w r h e q n = go (symbols_below k s T) refl
    where
      high : low_at k i w ≡ false
      high = sym q ∙ n

      place : i % 64 ≡ 0 → ⊥
      place z = false≢true (sym high ∙ length-word-low k i w z)

      go : (t : Bool) → symbols_below k s T ≡ t → t ≡ false
      go true l =
          let at : 64 * (i / 64) + i % 64 ≡ i = omega arith in
          let row = of-all _ l (in_upto s (i / 64) (omega arith)) in
          let low = of-all _ row (in_from 1 63 (i % 64) (omega (arith, place)) (omega arith)) in
          absurd (false≢true (sym high ∙ symbol-word-low k i w place ∙ ap (none_from k) (e ∙ ap (word T) (sym at)) ∙ low))
      go false l = refl
