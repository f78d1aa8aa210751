-- The turns of a loop that adds to the places of a row, which the search takes by itself. Assumes nothing.
use mathlib.Core.Path.{◌≡◌, refl, ap, subst, sym, ◌∙◌}
use mathlib.Core.Logic.{⊎_elim}
use mathlib.Core.List.{List}
use Prim.Native.Nat.{ℕ, suc, ◌+◌, ◌<◌}
use native.Mathlib.Nat.{le_of_suc-le-suc, eq-or-lt_of_le}
use native.Mathlib.Omega.{arith}
use lib.Bits.{bit_and, bit_or}
use lib.ListN.{length, set, length-set}
use lib.Seq.{get_or-set_same, get_or-set_other}
use Rattle.model.specs.Words.{word}
use Rattle.inplace.specs.InTable.{both}
use Rattle.inplace.specs.Adding.{Added}
use Rattle.inplace.proofs.MeetsLaws.{both_word}

pub added_start : (r : List ℕ) (c : ℕ) (T : List ℕ) (a b : ℕ) → Added r c T a b 0 r
added_start r c T a b = record { size = refl; first = refl; done = λ i h. absurd (omega arith); before = λ k h. refl; after = λ k h. refl }

module _ (r : List ℕ) (c : ℕ) (T : List ℕ) (a b i : ℕ) (s : List ℕ) (t : Added r c T a b i s) (l : suc (c + i) < length r) where
  added_step : Added r c T a b (suc i) (set s (suc (c + i)) (bit_or (word s (suc (c + i))) (both T a b i)))
  added_step =
      let n = t.size in
      let w : ℕ = bit_or (word s (suc (c + i))) (both T a b i) in
      record {
        size = length-set s (suc (c + i)) w ∙ t.size;
        first = get_or-set_other s (suc (c + i)) 0 w 0 (omega arith) ∙ t.first;
        done = λ j h. ⊎_elim
            (λ d. subst (λ (k : ℕ). word (set s (suc (c + i)) w) (suc (c + k)) ≡ bit_or (word r (suc (c + k))) (both T a b k)) (sym d)
            (get_or-set_same s (suc (c + i)) w 0 (omega arith) ∙ ap (λ (v : ℕ). bit_or v (both T a b i)) (t.after (c + i) (omega arith))))
            (λ d. get_or-set_other s (suc (c + i)) (suc (c + j)) w 0 (omega arith) ∙ t.done j d)
            (eq-or-lt_of_le (le_of_suc-le-suc h));
        before = λ k h. get_or-set_other s (suc (c + i)) (suc k) w 0 (omega arith) ∙ t.before k h;
        after = λ k h. get_or-set_other s (suc (c + i)) (suc k) w 0 (omega arith) ∙ t.after k (omega arith);
      }

  pub added_turn : Added r c T a b (i + 1) (set s (c + i + 1) (bit_or (word s (c + i + 1)) (bit_and (word T (a + i + 1)) (word T (b + i + 1)))))
  added_turn =
      let ec : c + i + 1 ≡ suc (c + i) = omega arith in
      let ei : i + 1 ≡ suc i = omega arith in
      rw (both_word T a b i, ec, ei) added_step
