-- A row of which no word has two bits once it is trimmed stands for at most one string; any other stands for two. Assumes nothing.
use mathlib.Core.Path.{◌≡◌, refl, sym, ap, subst, ◌∙◌}
use mathlib.Core.Logic.{◌≢◌}
use mathlib.Core.Bool.{Bool, true, false, not, false≢true}
use mathlib.Core.List.{List}
use Prim.Native.Nat.{ℕ, zero, suc, ◌+◌, ◌*◌, ◌≤◌, ◌<◌}
use native.Mathlib.Omega.{arith}
use lib.ListN.{length}
use lib.Dec.{ltb}
use borrow.Author.Tests.{le-leb, ltb-true, ltb-false}
use Rattle.model.specs.Lists.{any}
use Rattle.model.specs.Words.{bit, bits, several, word, Words}
use Rattle.model.specs.Domains.{row}
use Rattle.model.specs.Solutions.{text_bit}
use Rattle.words.specs.Ends.{Highest}
use Rattle.rows.proofs.TrimLaws.{allowed-strings, supported_in}
use Rattle.laws.specs.Inclusion.{Single}
use Rattle.laws.specs.Supported.{InRow, Supports}
use Rattle.laws.proofs.ListLaws.{of-any, in_any, get_or_in, in_get_or}
use Rattle.laws.proofs.WordLaws.{zero_bit, within_antisym}
use Rattle.laws.proofs.BitsLaws.{single_of, several_true, several_false, two-bits}
use Rattle.laws.proofs.DomainLaws.{row_word, row-length}
use Rattle.inplace.specs.InTable.{Tidy}
use Rattle.inplace.proofs.Tables.{row_first, row-place, highest-one}
use Rattle.laws.proofs.RowLaws.{used-once, same-strings}

-- ---- the test

-- a word with two bits is found
pub has-several : (v : List ℕ) (i : ℕ) → i < length v → 2 ≤ length (bits (word v i)) → false ≡ not (any several v)
unfolding several
has-several v i h l = ap not (sym (in_any several (get_or_in v i 0 h) (le-leb 2 (length (bits (word v i))) l)))

several-at : (v : List ℕ) → any several v ≡ true → (j : ℕ) × (j < length v) × (2 ≤ length (bits (word v j)))
several-at v e =
    let a = of-any several v e in
    let p = in_get_or v 0 a.1 in
    (p.0, p.1, several_true (word v p.0) (ap several p.2 ∙ a.2))

-- no word has two bits
pub none-several : (v : List ℕ) → ((j : ℕ) → j < length v → Single (word v j)) → true ≡ not (any several v)
none-several v h = go (any several v) refl
  where
    go : (t : Bool) → any several v ≡ t → true ≡ not t
    go true e =
        let a = several-at v e in
        let l = a.2 in
        let k = h a.0 a.1 in
        absurd (omega arith)
    go false e = refl

-- of string x's row, by the table's words
pub row-several : (T : List ℕ) (x i k : ℕ) → 64 * x + 64 ≤ length T → i < 64 → 64 * x + i ≡ k → several (word T k) ≡ true → false ≡ not (any several (row T x))
row-several T x i k f h d e =
    let l = row-length T x f in
    has-several (row T x) i (omega arith) (subst (λ (w : ℕ). 2 ≤ length (bits w)) (sym (row_word T x i h ∙ ap (word T) d)) (several_true (word T k) e))

pub row-single : (T : List ℕ) (x : ℕ) → 64 * x + 64 ≤ length T → Tidy (row T x) → several (word T (64 * x)) ≡ false → (top : ℕ) → Highest (word T (64 * x)) top
    → ((i : ℕ) → i < top → Single (word T (suc (64 * x + i)))) → true ≡ not (any several (row T x))
row-single T x f tidy e top high h = none-several (row T x)
    (elim [
      | zero ↦ λ k. subst Single (sym (row_first T x)) (several_false (word T (64 * x)) e)
      | suc i ↦ λ k. let l = row-length T x f in at i (omega arith)
          (ltb i top) refl
    ])
  where
    same-top : tidy.top ≡ top
    same-top = highest-one (word T (64 * x)) tidy.top top (subst (λ (w : ℕ). Highest w tidy.top) (row_first T x) tidy.longest) high

    at : (i : ℕ) → i < 63 → (t : Bool) → ltb i top ≡ t → Single (word (row T x) (suc i))
    at i k true q = subst Single (sym (row-place T x i k)) (h i (ltb-true i top q))
    at i k false q =
        let d = same-top in
        let l = ltb-false i top q in
        subst Single (sym (tidy.gone i (omega arith))) (single_of 0 (λ b c p. absurd (false≢true (sym (zero_bit b) ∙ p))))

-- ---- what it says of a row

-- strings that use two bits of one word are two strings
uses-apart : (u₁ u₂ : List ℕ) (j b c : ℕ) → bit (text_bit u₁ j) b ≡ true → bit (text_bit u₂ j) c ≡ true → b < c → u₁ ≢ u₂
uses-apart u₁ u₂ j b c p q h e = let d = used-once u₂ j b c (subst (λ (w : List ℕ). bit (text_bit w j) b ≡ true) e p) q in omega arith

-- y is a row, and v what trimming leaves of it
module _ (y v : List ℕ) (bY : Words y) (bV : Words v) (s : Supports (InRow y) text_bit 64 v) where
  module _ (one : any several v ≡ false) where
    one_bit : (j : ℕ) → j < length v → Single (word v j)
    one_bit j h = go (several (word v j)) refl
      where
        go : (t : Bool) → several (word v j) ≡ t → Single (word v j)
        go true e = absurd (false≢true (sym one ∙ in_any several (get_or_in v j 0 h) e))
        go false e = several_false (word v j) e

    pub only-string : (w u : List ℕ) → InRow y w → InRow y u → w ≡ u
    only-string w u i k = same-strings v w u (allowed-strings v bV w (supported_in y v bY s w i)) (allowed-strings v bV u (supported_in y v bY s u k)) one_bit

    -- what is left is what the one string uses
    pub only-words : (u : List ℕ) → InRow y u → (i : ℕ) → i < 64 → word v i ≡ text_bit u i
    only-words u k i h = within_antisym (word v i) (text_bit u i)
        (λ b e. let t = s.sound i b h e in subst (λ (w : List ℕ). bit (text_bit w i) b ≡ true) (only-string t.0 u t.1 k) t.2)
        (λ b e. s.complete i b h u k e)

  -- a word with two bits is used by two strings
  pub two-strings : any several v ≡ true → (u₁ : List ℕ) × (u₂ : List ℕ) × InRow y u₁ × InRow y u₂ × (u₁ ≢ u₂)
  two-strings e =
      let a = several-at v e in
      let j = a.0 in
      let l : j < 64 = subst (λ (n : ℕ). j < n) s.count a.1 in
      let t = two-bits (word v j) a.2 in
      let f = s.sound j t.0 l t.2 in
      let g = s.sound j t.1 l t.3 in
      (f.0, g.0, f.1, g.1, uses-apart f.0 g.0 j t.0 t.1 f.2 g.2 t.4)
