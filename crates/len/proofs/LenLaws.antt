-- Len by support: the strings that have a value of the number as their length are those of the row whose lengths are met with the number's word, and each
-- gives the number its length. Assumes nothing.
use mathlib.Core.Path.{◌≡◌, refl, sym, ap, subst, ◌∙◌}
use mathlib.Core.Bool.{true}
use mathlib.Core.List.{List, [], ◌∷◌, ◌++◌}
use Prim.Native.Nat.{ℕ, zero, suc, ◌^◌, ◌<◌}
use native.Mathlib.Omega.{arith}
use lib.Bits.{bit_and}
use lib.ListN.{length, get_or, set, length-set}
use lib.Seq.{get_or-set_same, get_or-set_other}
use borrow.Author.Tests.{eqb-true, eq-eqb}
use Rattle.model.specs.Words.{bit, word, Words}
use Rattle.model.specs.Constraints.{Choice, len, variables, meets}
use Rattle.model.specs.Solutions.{text_bit}
use Rattle.model.specs.Support.{narrowed}
use Rattle.rows.specs.Rows.{alone, trimmed}
use Rattle.rows.proofs.TrimLaws.{trimmed-supports}
use Rattle.rows.proofs.Alone.{rows-narrowed, one_word}
use Rattle.laws.specs.Supported.{InRow, Supports}
use Rattle.laws.proofs.WordLaws.{bit_high}
use Rattle.laws.proofs.ShiftLaws.{and-bit, of-and-bit}
use Rattle.laws.proofs.RowLaws.{length-pow}
use Rattle.laws.proofs.Supports.{moved-support, first-word-supports}
use Rattle.model.specs.Lists.{from, upto}
use Rattle.model.specs.Rounds.{variables_of}

module _ (x : List ℕ) (n : ℕ) (lx : length x ≡ 64) (bx : Words x) (bn : n < 2 ^ 64) where
  -- ---- the row whose lengths are also values of the number

  abbrev both : List ℕ
  both = set x 0 (bit_and (word x 0) n)

  both_first : word both 0 ≡ bit_and (word x 0) n
  both_first = get_or-set_same x 0 (bit_and (word x 0) n) 0 (omega arith)

  both-place : (j : ℕ) → word both (suc j) ≡ word x (suc j)
  both-place j = get_or-set_other x 0 (suc j) (bit_and (word x 0) n) 0 (omega arith)

  both-length : length both ≡ 64
  both-length = length-set x 0 (bit_and (word x 0) n) ∙ lx

  both_words : Words both
  both_words zero b e = bx 0 b (of-and-bit (word x 0) n b (ap (λ (w : ℕ). bit w b) (sym both_first) ∙ e)).0
  both_words (suc j) b e = bx (suc j) b (ap (λ (w : ℕ). bit w b) (sym (both-place j)) ∙ e)

  in_both : (w : List ℕ) → InRow x w → bit n (length w) ≡ true → InRow both w
  in_both w i e = record {
    length-bit = ap (λ (a : ℕ). bit a (length w)) both_first ∙ and-bit (word x 0) n (length w) i.length-bit e;
    symbol-bits = λ j h. ap (λ (a : ℕ). bit a (get_or w j 0)) (both-place j) ∙ i.symbol-bits j h;
  }

  of-both : (w : List ℕ) → InRow both w → InRow x w × (bit n (length w) ≡ true)
  of-both w i =
      let t = of-and-bit (word x 0) n (length w) (ap (λ (a : ℕ). bit a (length w)) (sym both_first) ∙ i.length-bit) in
      (record { length-bit = t.0; symbol-bits = λ j h. ap (λ (a : ℕ). bit a (get_or w j 0)) (sym (both-place j)) ∙ i.symbol-bits j h }, t.1)

  -- ---- the row and the number that are left

  abbrev left : List ℕ
  left = trimmed both

  left-supports : Supports (InRow both) text_bit 64 left
  left-supports = trimmed-supports both both-length both_words

  -- a string with its length
  abbrev measured : List ℕ → Choice
  measured w = record { text = λ z. w; value = λ z. length w }

  number-supports : Supports (InRow both) (λ w i. 2 ^ length w) 1 (word left 0 ∷ [])
  number-supports = moved-support (InRow both) (InRow both) text_bit (λ w i. 2 ^ length w) 1 (word left 0 ∷ [])
      (λ w i. (w, i, length-pow w)) (λ w i. (w, i, length-pow w)) (first-word-supports (InRow both) text_bit 64 left (omega arith) left-supports)

  pub len-narrowed : left ++ (word left 0 ∷ []) ≡ narrowed (alone 1 1 []) (len 0 0) (x ++ (n ∷ []))
  unfolding variables meets variables_of alone upto from
  len-narrowed = rows-narrowed [] (len 0 0) (x ∷ []) (n ∷ []) refl (elim [ zero ↦ λ h. lx | suc z ↦ λ h. absurd (omega arith) ])
      (elim [ zero ↦ λ h. bx | suc z ↦ λ h. absurd (omega arith) ])
      (one_word n (λ b. bit_high n 64 b bn)) (InRow both) measured (λ α. α.text 0)
      (λ w i. record {
        texts = elim [ zero ↦ λ h. (of-both w i).0 | suc z ↦ λ h. absurd (omega arith) ];
        values = elim [ zero ↦ λ h. (of-both w i).1 | suc z ↦ λ h. absurd (omega arith) ];
        meeting = eq-eqb (length w) (length w) refl;
      })
      (λ α t. in_both (α.text 0) (t.texts 0 (omega arith)) (subst (λ (b : ℕ). bit n b ≡ true) (eqb-true (α.value 0) (length (α.text 0)) t.meeting)
      (t.values 0 (omega arith))))
      (λ α t. elim [ zero ↦ λ h. refl | suc z ↦ λ h. absurd (omega arith) ])
      (λ α t. elim [ zero ↦ λ h. sym (eqb-true (α.value 0) (length (α.text 0)) t.meeting) | suc z ↦ λ h. absurd (omega arith) ])
      (left ∷ []) (word left 0 ∷ []) refl refl (elim [ zero ↦ λ h. left-supports | suc z ↦ λ h. absurd (omega arith) ])
      (elim [ zero ↦ λ h. number-supports | suc z ↦ λ h. absurd (omega arith) ])
