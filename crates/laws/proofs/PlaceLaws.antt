-- A table is the narrowed one when each row and each number that the constraint names has the support of its choices, and no other word has moved: how rows
-- and numbers, worked out apart, go back into a table. Assumes nothing.
use mathlib.Core.Path.{◌≡◌, sym, ap, subst, ◌∙◌}
use mathlib.Core.Bool.{true, false}
use mathlib.Core.List.{List, [], ◌∷◌}
use Prim.Native.Nat.{ℕ, ◌+◌, ◌*◌, ◌^◌, ◌<◌}
use native.Mathlib.Omega.{arith}
use lib.ListN.{length}
use Rattle.model.specs.Words.{bit, word}
use Rattle.model.specs.Domains.{Variable, str, num, row}
use Rattle.model.specs.Constraints.{Choice, Problem, Constraint, width, variables}
use Rattle.model.specs.Solutions.{text_bit, used}
use Rattle.model.specs.Support.{touches, narrowed}
use Rattle.laws.specs.Inclusion.{In}
use Rattle.laws.specs.Supported.{Supports}
use Rattle.laws.proofs.DomainLaws.{row_word, owner-text, owner-value, by_word, used-text, used-value}
use Rattle.laws.proofs.SupportLaws.{Supporting, touched, is-narrowed}

module _ (P : Problem) (c : Constraint) (T U : List ℕ) (ln : length T ≡ width P) (same : length U ≡ length T)
    (texts : (x : ℕ) → x < P.strings → In (str x) (variables c) → Supports (Supporting P c T) (λ α. text_bit (α.text x)) 64 (row U x))
    (values : (n : ℕ) → n < P.numbers → In (num n) (variables c) → Supports (Supporting P c T) (λ α i. 2 ^ (α.value n)) 1 (word U (64 * P.strings + n) ∷ []))
    (others : (i : ℕ) → i < length T → touches P c i ≡ false → word U i ≡ word T i) where
  text-touched : (x j : ℕ) → x < P.strings → j < 64 → touches P c (64 * x + j) ≡ true → In (str x) (variables c)
  text-touched x j h k t = subst (λ (v : Variable). In v (variables c)) (owner-text P.strings x j h k) (touched P c (64 * x + j) t)

  value-touched : (n : ℕ) → touches P c (64 * P.strings + n) ≡ true → In (num n) (variables c)
  value-touched n t = subst (λ (v : Variable). In v (variables c)) (owner-value P.strings n) (touched P c (64 * P.strings + n) t)

  sound : (i : ℕ) → i < length T → touches P c i ≡ true → (b : ℕ) → bit (word U i) b ≡ true → (α : Choice) × Supporting P c T α × (bit (used P.strings α i) b ≡ true)
  sound = by_word P.strings (λ i. i < length T → touches P c i ≡ true → (b : ℕ) → bit (word U i) b ≡ true → (α : Choice) × Supporting P c T α × (bit (used P.strings α i) b ≡ true))
      (λ x j h k l t b q.
      let u = (texts x h (text-touched x j h k t)).sound j b k (ap (λ (w : ℕ). bit w b) (row_word U x j k) ∙ q) in
      (u.0, u.1, ap (λ (w : ℕ). bit w b) (used-text P.strings u.0 x j h k) ∙ u.2))
      (λ n l t b q.
      let u = (values n (omega arith) (value-touched n t)).sound 0 b (omega arith) q in
      (u.0, u.1, ap (λ (w : ℕ). bit w b) (used-value P.strings u.0 n) ∙ u.2))

  complete : (i : ℕ) → i < length T → touches P c i ≡ true → (b : ℕ) (α : Choice) → Supporting P c T α → bit (used P.strings α i) b ≡ true → bit (word U i) b ≡ true
  complete = by_word P.strings (λ i. i < length T → touches P c i ≡ true → (b : ℕ) (α : Choice) → Supporting P c T α → bit (used P.strings α i) b ≡ true → bit (word U i) b ≡ true)
      (λ x j h k l t b α s q.
      ap (λ (w : ℕ). bit w b) (sym (row_word U x j k)) ∙ (texts x h (text-touched x j h k t)).complete j b k α s (ap (λ (w : ℕ). bit w b) (sym (used-text P.strings α x j h k)) ∙ q))
      (λ n l t b α s q. (values n (omega arith) (value-touched n t)).complete 0 b (omega arith) α s (ap (λ (w : ℕ). bit w b) (sym (used-value P.strings α n)) ∙ q))

  pub narrowed-rows : U ≡ narrowed P c T
  narrowed-rows = is-narrowed P c T U same (λ i b h t q. sound i h t b q) (λ i b h t α s q. complete i h t b α s q) others
