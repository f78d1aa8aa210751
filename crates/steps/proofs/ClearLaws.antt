-- A table in which no choice is left for a constraint: narrowing it strikes every bit of the variables that the constraint names. Assumes nothing.
use mathlib.Core.Path.{◌≡◌, refl, sym, ap, subst, ◌∙◌}
use mathlib.Core.Bool.{Bool, true, false, false≢true}
use mathlib.Core.List.{List}
use Prim.Native.Nat.{ℕ, ◌<◌}
use lib.ListN.{length}
use lib.Seq.{ext_get_or}
use Rattle.model.specs.Words.{bit, word}
use Rattle.model.specs.Constraints.{Problem, Constraint, Choice}
use Rattle.model.specs.Support.{touches, narrowed}
use Rattle.laws.proofs.WordLaws.{zero_bit}
use Rattle.laws.proofs.SupportLaws.{Supporting, is-narrowed}
use Rattle.rows.proofs.Fill.{tabulated_length, tabulated_word}
use Rattle.steps.specs.Step.{cleared}

module _ (P : Problem) (c : Constraint) (T : List ℕ) where
  pub cleared-length : length (cleared P c T) ≡ length T
  unfolding cleared
  cleared-length = tabulated_length _ (length T)

  pub cleared-touched : (k : ℕ) → k < length T → touches P c k ≡ true → word (cleared P c T) k ≡ 0
  unfolding cleared
  cleared-touched k h t = tabulated_word _ (length T) k h ∙ rw t

  pub cleared-other : (k : ℕ) → k < length T → touches P c k ≡ false → word (cleared P c T) k ≡ word T k
  unfolding cleared
  cleared-other k h t = tabulated_word _ (length T) k h ∙ rw t

  -- a table with nothing in the words of c's variables, and T's words elsewhere
  pub is-cleared : (W : List ℕ) → length W ≡ length T → ((k : ℕ) → k < length T → touches P c k ≡ true → word W k ≡ 0)
      → ((k : ℕ) → k < length T → touches P c k ≡ false → word W k ≡ word T k) → W ≡ cleared P c T
  is-cleared W e z o = ext_get_or 0 W (cleared P c T) (e ∙ sym cleared-length) (λ k h. at k (subst (λ (n : ℕ). k < n) e h) (touches P c k) refl)
    where
      at : (k : ℕ) → k < length T → (t : Bool) → touches P c k ≡ t → word W k ≡ word (cleared P c T) k
      at k h true t = z k h t ∙ sym (cleared-touched k h t)
      at k h false t = o k h t ∙ sym (cleared-other k h t)

  pub no-choice : ((α : Choice) → Supporting P c T α → ⊥) → cleared P c T ≡ narrowed P c T
  no-choice never = is-narrowed P c T (cleared P c T) cleared-length
      (λ i b h t q. absurd (false≢true (sym (ap (λ (w : ℕ). bit w b) (cleared-touched i h t) ∙ zero_bit b) ∙ q)))
      (λ i b h t α s q. absurd (never α s))
      cleared-other
