-- A trimmed row that has a length is tidy, and one that has none has no bit. Assumes nothing.
use mathlib.Core.Path.{◌≡◌, refl, sym, ap, subst, ◌∙◌}
use mathlib.Core.Bool.{Bool, true, false, false≢true}
use mathlib.Core.List.Memᴰ
use mathlib.Core.List.{List}
use Prim.Native.Nat.{ℕ, ◌+◌, ◌*◌, ◌≤◌, ◌<◌}
use native.Mathlib.Omega.{arith}
use lib.ListN.{length}
use Rattle.model.specs.Words.{bit, word, Words}
use Rattle.model.specs.Domains.{str, row}
use Rattle.model.specs.Constraints.{Problem, Constraint, Choice, always, variables, width}
use Rattle.model.specs.Solutions.{text_bit}
use Rattle.model.specs.Support.{narrowed}
use Rattle.laws.specs.Inclusion.{In}
use Rattle.laws.specs.Supported.{InRow, Supports}
use Rattle.laws.proofs.WordLaws.{zero_bit, no_bits}
use Rattle.laws.proofs.DomainLaws.{row-length, row_words, text-within}
use Rattle.laws.proofs.RowLaws.{length-used}
use Rattle.laws.proofs.SupportLaws.{Supporting, stays-only, touched-text}
use Rattle.rows.specs.Rows.{trimmed}
use Rattle.rows.proofs.TrimLaws.{trimmed-supports, trimmed-length}
use Rattle.rows.proofs.StoreLaws.{row-stored}
use Rattle.inplace.specs.InTable.{Tidy}
use Rattle.inplace.proofs.Tables.{row_first}
use Rattle.inplace.proofs.Tidied.{trim-placed}
use Rattle.inplace.proofs.Supported.{support-choice, support-tidy}

-- a row that trimming leaves as it is
tidy-trimmed : (r : List ℕ) → length r ≡ 64 → Words r → trimmed r ≡ r → 0 < word r 0 → Tidy r
tidy-trimmed r ln bd e some =
    let s = subst (Supports (InRow r) text_bit 64) e (trimmed-supports r ln bd) in
    let v = support-choice (InRow r) (λ w. w) r s r bd (λ w i. i) some in
    support-tidy (InRow r) (λ w. w) r s r bd (λ w i. i) v.0 v.1

-- a string of a table that trimming leaves as it is, and that has a length
pub tidy-string : (P : Problem) (U : List ℕ) (x : ℕ) → length U ≡ width P → Words U → x < P.strings → narrowed P (always x) U ≡ U → 0 < word U (64 * x) → Tidy (row U x)
tidy-string P U x ln bd h e some =
    let f : 64 * x + 64 ≤ length U = omega arith in
    let lr : length (row U x) ≡ 64 = row-length U x f in
    tidy-trimmed (row U x) lr (row_words U bd x)
    (sym (row-stored U x (trimmed (row U x)) f (trimmed-length (row U x) ∙ lr)) ∙ ap (λ (W : List ℕ). row W x) (trim-placed P x h U ln ∙ e))
    (subst (λ (w : ℕ). 0 < w) (sym (row_first U x)) some)

-- what names a string without a length has no choice
pub no_length : (P : Problem) (c : Constraint) (U : List ℕ) (x : ℕ) → In (str x) (variables c) → word U (64 * x) ≡ 0 → (α : Choice) → Supporting P c U α → ⊥
no_length P c U x m z α s =
    let q : 64 * x + 0 ≡ 64 * x = omega arith in
    let t = text-within U x (α.text x) (s.in_domains (str x) m) 0 (omega arith) (length (α.text x)) (length-used (α.text x)) in
    false≢true (sym (zero_bit (length (α.text x))) ∙ ap (λ (y : ℕ). bit y (length (α.text x))) (sym (ap (word U) q ∙ z)) ∙ t)

-- a string of a table that trimming leaves as it is, and that has no length
pub empty-string : (P : Problem) (U : List ℕ) (x : ℕ) → length U ≡ width P → x < P.strings → narrowed P (always x) U ≡ U → word U (64 * x) ≡ 0 → (j : ℕ) → j < 64 → word U (64 * x + j) ≡ 0
unfolding variables
empty-string P U x ln h e z j k = no_bits (word U (64 * x + j)) (λ b. go b (bit (word U (64 * x + j)) b) refl)
  where
    own : In (str x) (variables (always x))
    own = Memᴰ.head refl

    go : (b : ℕ) (t : Bool) → bit (word U (64 * x + j)) b ≡ t → bit (word U (64 * x + j)) b ≡ false
    go b false q = q
    go b true q =
        let u = stays-only P (always x) U (64 * x + j) b (omega arith) (touched-text P (always x) x j h k own) (ap (λ (W : List ℕ). bit (word W (64 * x + j)) b) e ∙ q) in
        absurd (no_length P (always x) U x own z u.0 u.1)
