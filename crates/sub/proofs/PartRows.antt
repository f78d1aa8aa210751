-- Relations between two strings and a number: rows and a word that have the support of the choices that meet the relation's test are the narrowed ones.
-- Assumes nothing.
use mathlib.Core.Path.{◌≡◌, refl, sym, ◌∙◌}
use mathlib.Core.Bool.{Bool, true, cond}
use mathlib.Core.List.{List, [], ◌∷◌, ◌++◌}
use Prim.Native.Nat.{ℕ, zero, suc, ◌^◌, ◌<◌}
use native.Mathlib.Omega.{arith}
use lib.Dec.{eqb}
use lib.ListN.{length, get_or}
use Rattle.model.specs.Lists.{from, upto}
use Rattle.model.specs.Words.{bit, Words}
use Rattle.model.specs.Domains.{str, num}
use Rattle.model.specs.Constraints.{Choice, Constraint, variables, meets}
use Rattle.model.specs.Solutions.{text_bit}
use Rattle.model.specs.Support.{narrowed}
use Rattle.model.specs.Rounds.{variables_of}
use Rattle.rows.specs.Rows.{alone}
use Rattle.rows.proofs.Positions.{below_two}
use Rattle.rows.proofs.Alone.{rows-narrowed, one_word}
use Rattle.laws.specs.Supported.{InRow, Supports}

-- a choice: X, Y and N
pub record Part : Type 0 where
  pub whole : List ℕ
  pub part : List ℕ
  pub start : ℕ

-- the rows and the word have the support of the choices that count
pub record Supported (Ok : Part → Type 0) (rx ry : List ℕ) (rn : ℕ) : Type 0 where
  pub wholes : Supports Ok (λ v. text_bit v.whole) 64 rx
  pub parts : Supports Ok (λ v. text_bit v.part) 64 ry
  pub starts : Supports Ok (λ v i. 2 ^ v.start) 1 (rn ∷ [])

-- a string of each row and a value of the word, and the three meet the test
pub record Met (test : List ℕ → List ℕ → ℕ → Bool) (x y : List ℕ) (n : ℕ) (v : Part) : Type 0 where
  pub in_whole : InRow x v.whole
  pub in_part : InRow y v.part
  pub in_start : bit n v.start ≡ true
  pub meeting : test v.whole v.part v.start ≡ true

abbrev placement : Part → Choice
placement v = record { text = λ i. cond (eqb i 0) v.whole v.part; value = λ i. v.start }

pub part-narrowed : (c : Constraint) (test : List ℕ → List ℕ → ℕ → Bool) → variables c ≡ str 0 ∷ str 1 ∷ num 0 ∷ []
    → ((α : Choice) → meets (alone 2 1 []) c α ≡ test (α.text 0) (α.text 1) (α.value 0))
    → (x y : List ℕ) (n : ℕ) → length x ≡ 64 → length y ≡ 64 → Words x → Words y → ((b : ℕ) → bit n b ≡ true → b < 64) → (rx ry : List ℕ) (rn : ℕ)
    → Supported (Met test x y n) rx ry rn
    → rx ++ (ry ++ (rn ∷ [])) ≡ narrowed (alone 2 1 []) c (x ++ (y ++ (n ∷ [])))
unfolding variables_of alone upto from
part-narrowed c test vs same x y n lx ly bx bY bn rx ry rn s = rows-narrowed [] c (x ∷ y ∷ []) (n ∷ []) vs
    (below_two (λ a. length (get_or (x ∷ y ∷ []) a []) ≡ 64) lx ly) (below_two (λ a. Words (get_or (x ∷ y ∷ []) a [])) bx bY) (one_word n bn)
    (Met test x y n) placement (λ α. record { whole = α.text 0; part = α.text 1; start = α.value 0 })
    (λ v m. record {
      texts = below_two (λ a. InRow (get_or (x ∷ y ∷ []) a []) ((placement v).text a)) m.in_whole m.in_part;
      values = elim [ zero ↦ λ h. m.in_start | suc a ↦ λ h. absurd (omega arith) ];
      meeting = same (placement v) ∙ m.meeting;
    })
    (λ α t. record {
      in_whole = t.texts 0 (omega arith);
      in_part = t.texts 1 (omega arith);
      in_start = t.values 0 (omega arith);
      meeting = sym (same α) ∙ t.meeting;
    })
    (λ α t. below_two (λ a. cond (eqb a 0) (α.text 0) (α.text 1) ≡ α.text a) refl refl)
    (λ α t. elim [ zero ↦ λ h. refl | suc a ↦ λ h. absurd (omega arith) ])
    (rx ∷ ry ∷ []) (rn ∷ []) refl refl (below_two (λ a. Supports (Met test x y n) (λ v. text_bit ((placement v).text a)) 64 (get_or (rx ∷ ry ∷ []) a [])) s.wholes s.parts)
    (elim [ zero ↦ λ h. s.starts | suc a ↦ λ h. absurd (omega arith) ])
