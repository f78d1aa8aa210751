-- Relations between three strings: rows that have the support of the choices that meet the relation's test are the narrowed rows. Assumes nothing.
use mathlib.Core.Path.{◌≡◌, refl, sym, ap, ◌∙◌}
use mathlib.Core.Bool.{Bool, true, cond}
use mathlib.Core.List.{List, [], ◌∷◌, ◌++◌, append-nil}
use Prim.Native.Nat.{ℕ}
use native.Mathlib.Omega.{arith}
use lib.Dec.{eqb}
use lib.ListN.{length, get_or}
use Rattle.model.specs.Lists.{from, upto}
use Rattle.model.specs.Words.{Words}
use Rattle.model.specs.Domains.{str}
use Rattle.model.specs.Constraints.{Choice, Constraint, variables, meets}
use Rattle.model.specs.Solutions.{text_bit}
use Rattle.model.specs.Support.{narrowed}
use Rattle.model.specs.Rounds.{variables_of}
use Rattle.rows.specs.Rows.{alone}
use Rattle.rows.proofs.Positions.{below_three}
use Rattle.rows.proofs.Alone.{rows-narrowed, no_words}
use Rattle.laws.specs.Supported.{InRow, Supports}
use Rattle.cat.specs.Splits.{Three, Supported}

-- a string of each row, and the three meet the test
pub record Met (test : List ℕ → List ℕ → List ℕ → Bool) (x y z : List ℕ) (v : Three) : Type 0 where
  pub in_first : InRow x v.first
  pub in_second : InRow y v.second
  pub in_third : InRow z v.third
  pub meeting : test v.first v.second v.third ≡ true

abbrev triple : Three → Choice
triple v = record { text = λ i. cond (eqb i 0) v.first (cond (eqb i 1) v.second v.third); value = λ n. 0 }

pub three-narrowed : (c : Constraint) (test : List ℕ → List ℕ → List ℕ → Bool) → variables c ≡ str 0 ∷ str 1 ∷ str 2 ∷ []
    → ((α : Choice) → meets (alone 3 0 []) c α ≡ test (α.text 0) (α.text 1) (α.text 2))
    → (x y z : List ℕ) → length x ≡ 64 → length y ≡ 64 → length z ≡ 64 → Words x → Words y → Words z → (rx ry rz : List ℕ) → Supported (Met test x y z) rx ry rz
    → rx ++ (ry ++ rz) ≡ narrowed (alone 3 0 []) c (x ++ (y ++ z))
unfolding variables_of alone upto from
three-narrowed c test vs same x y z lx ly lz bx bY bz rx ry rz s =
    ap (λ (l : List ℕ). rx ++ (ry ++ l)) (sym (append-nil rz))
    ∙ rows-narrowed [] c (x ∷ y ∷ z ∷ []) [] vs
    (below_three (λ a. length (get_or (x ∷ y ∷ z ∷ []) a []) ≡ 64) lx ly lz) (below_three (λ a. Words (get_or (x ∷ y ∷ z ∷ []) a [])) bx bY bz) no_words
    (Met test x y z) triple (λ α. record { first = α.text 0; second = α.text 1; third = α.text 2 })
    (λ v m. record {
      texts = below_three (λ a. InRow (get_or (x ∷ y ∷ z ∷ []) a []) ((triple v).text a)) m.in_first m.in_second m.in_third;
      values = λ n h. absurd (omega arith);
      meeting = same (triple v) ∙ m.meeting;
    })
    (λ α t. record {
      in_first = t.texts 0 (omega arith);
      in_second = t.texts 1 (omega arith);
      in_third = t.texts 2 (omega arith);
      meeting = sym (same α)
          ∙ t.meeting;
    })
    (λ α t. below_three (λ a. cond (eqb a 0) (α.text 0) (cond (eqb a 1) (α.text 1) (α.text 2)) ≡ α.text a) refl refl refl)
    (λ α t n h. absurd (omega arith))
    (rx ∷ ry ∷ rz ∷ []) [] refl refl
    (below_three (λ a. Supports (Met test x y z) (λ v. text_bit ((triple v).text a)) 64 (get_or (rx ∷ ry ∷ rz ∷ []) a [])) s.firsts s.seconds s.thirds)
    (λ n h. absurd (omega arith))
    ∙ ap (λ (l : List ℕ). narrowed (alone 3 0 []) c (x ++ (y ++ l))) (append-nil z)
