-- Relations on one string: a row that has the support of the strings that the row allows and that pass the relation's test is the narrowed row. Assumes nothing.
use mathlib.Core.Path.{◌≡◌, refl, sym, ap, ◌∙◌}
use mathlib.Core.Bool.{Bool, true}
use mathlib.Core.List.{List, [], ◌∷◌, append-nil}
use Prim.Native.Nat.{ℕ, zero, suc}
use native.Mathlib.Omega.{arith}
use lib.ListN.{length}
use Rattle.model.specs.Lists.{from, upto}
use Rattle.model.specs.Words.{Words}
use Rattle.model.specs.Domains.{str}
use Rattle.model.specs.Constraints.{Choice, Constraint, Automaton, variables, meets}
use Rattle.model.specs.Solutions.{text_bit}
use Rattle.model.specs.Support.{narrowed}
use Rattle.model.specs.Rounds.{variables_of}
use Rattle.rows.specs.Rows.{alone}
use Rattle.rows.proofs.Alone.{rows-narrowed, no_words}
use Rattle.laws.specs.Supported.{InRow, Supports}

-- a string of the row that passes the test
pub record Passing (test : List ℕ → Bool) (x w : List ℕ) : Type 0 where
  pub inside : InRow x w
  pub meeting : test w ≡ true

pub one-narrowed : (ds : List Automaton) (c : Constraint) (test : List ℕ → Bool) → variables c ≡ str 0 ∷ [] → ((α : Choice) → meets (alone 1 0 ds) c α ≡ test (α.text 0))
    → (x : List ℕ) → length x ≡ 64 → Words x → (r : List ℕ) → Supports (Passing test x) text_bit 64 r → r ≡ narrowed (alone 1 0 ds) c x
unfolding variables_of alone upto from
one-narrowed ds c test vs same x lx bx r s =
    sym (append-nil r)
    ∙ rows-narrowed ds c (x ∷ []) [] vs (elim [ zero ↦ λ h. lx | suc z ↦ λ h. absurd (omega arith) ]) (elim [ zero ↦ λ h. bx | suc z ↦ λ h. absurd (omega arith) ]) no_words
    (Passing test x) (λ w. record { text = λ z. w; value = λ n. 0 }) (λ α. α.text 0)
    (λ w m. record { texts = elim [ zero ↦ λ h. m.inside | suc z ↦ λ h. absurd (omega arith) ]; values = λ n h. absurd (omega arith); meeting = same (record { text = λ z. w; value = λ n. 0 }) ∙ m.meeting })
    (λ α t. record { inside = t.texts 0 (omega arith); meeting = sym (same α) ∙ t.meeting })
    (λ α t. elim [ zero ↦ λ h. refl | suc z ↦ λ h. absurd (omega arith) ]) (λ α t n h. absurd (omega arith))
    (r ∷ []) [] refl refl (elim [ zero ↦ λ h. s | suc z ↦ λ h. absurd (omega arith) ]) (λ n h. absurd (omega arith))
    ∙ ap (λ (l : List ℕ). narrowed (alone 1 0 ds) c l) (append-nil x)
