-- Relations between two strings: rows that have the support of the pairs that meet the relation's test are the narrowed rows. Assumes nothing.
use mathlib.Core.Path.{◌≡◌, refl, sym, ap, ◌∙◌}
use mathlib.Core.Bool.{Bool, true, cond}
use mathlib.Core.List.{List, [], ◌∷◌, ◌++◌, append-nil}
use Prim.Native.Nat.{ℕ}
use native.Mathlib.Omega.{arith}
use lib.Dec.{eqb}
use lib.ListN.{length, get_or}
use Rattle.model.specs.Lists.{from, upto}
use Rattle.model.specs.Words.{Words}
use Rattle.model.specs.Domains.{str}
use Rattle.model.specs.Constraints.{Choice, Constraint, variables, meets}
use Rattle.model.specs.Solutions.{text_bit}
use Rattle.model.specs.Support.{narrowed}
use Rattle.model.specs.Rounds.{variables_of}
use Rattle.rows.specs.Rows.{alone}
use Rattle.rows.proofs.Positions.{below_two}
use Rattle.rows.proofs.Alone.{rows-narrowed, no_words}
use Rattle.laws.specs.Supported.{InRow, Supports}

pub record Two : Type 0 where
  pub first : List ℕ
  pub second : List ℕ

-- a string of each row, and the two meet the test
pub record Met (test : List ℕ → List ℕ → Bool) (x y : List ℕ) (p : Two) : Type 0 where
  pub in_first : InRow x p.first
  pub in_second : InRow y p.second
  pub meeting : test p.first p.second ≡ true

abbrev pair : Two → Choice
pair p = record { text = λ z. cond (eqb z 0) p.first p.second; value = λ n. 0 }

pub two-narrowed : (c : Constraint) (test : List ℕ → List ℕ → Bool) → variables c ≡ str 0 ∷ str 1 ∷ [] → ((α : Choice) → meets (alone 2 0 []) c α ≡ test (α.text 0) (α.text 1))
    → (x y : List ℕ) → length x ≡ 64 → length y ≡ 64 → Words x → Words y → (rx ry : List ℕ) → Supports (Met test x y) (λ p. text_bit p.first) 64 rx → Supports (Met test x y) (λ p. text_bit p.second) 64 ry
    → rx ++ ry ≡ narrowed (alone 2 0 []) c (x ++ y)
unfolding variables_of alone upto from
two-narrowed c test vs same x y lx ly bx bY rx ry sx sy =
    ap (λ (l : List ℕ). rx ++ l) (sym (append-nil ry))
    ∙ rows-narrowed [] c (x ∷ y ∷ []) [] vs
    (below_two (λ z. length (get_or (x ∷ y ∷ []) z []) ≡ 64) lx ly) (below_two (λ z. Words (get_or (x ∷ y ∷ []) z [])) bx bY) no_words
    (Met test x y) pair (λ α. record { first = α.text 0; second = α.text 1 })
    (λ p m. record {
      texts = below_two (λ z. InRow (get_or (x ∷ y ∷ []) z []) ((pair p).text z)) m.in_first m.in_second;
      values = λ n h. absurd (omega arith);
      meeting = same (pair p) ∙ m.meeting;
    })
    (λ α t. record { in_first = t.texts 0 (omega arith); in_second = t.texts 1 (omega arith); meeting = sym (same α) ∙ t.meeting })
    (λ α t. below_two (λ z. cond (eqb z 0) (α.text 0) (α.text 1) ≡ α.text z) refl refl) (λ α t n h. absurd (omega arith))
    (rx ∷ ry ∷ []) [] refl refl (below_two (λ z. Supports (Met test x y) (λ p. text_bit ((pair p).text z)) 64 (get_or (rx ∷ ry ∷ []) z [])) sx sy) (λ n h. absurd (omega arith))
    ∙ ap (λ (l : List ℕ). narrowed (alone 2 0 []) c (x ++ l)) (append-nil y)
