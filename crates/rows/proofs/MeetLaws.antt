-- Laws of rows met and joined word by word: which strings a meet stands for, and what a join supports. Assumes nothing.
use mathlib.Core.Path.{◌≡◌, refl, sym, ap, ◌∙◌}
use mathlib.Core.Bool.{Bool, true, false, false≢true}
use mathlib.Core.List.{List}
use Prim.Native.Nat.{ℕ, suc, ◌<◌}
use native.Mathlib.Omega.{arith}
use lib.Bits.{bit_and}
use lib.Dec.{ltb}
use lib.ListN.{length, get_or, get_or-eq_default}
use borrow.Author.Tests.{ltb-true, ltb-false}
use Rattle.model.specs.Lists.{upto}
use Rattle.model.specs.Words.{bit, word, Words}
use Rattle.rows.specs.Rows.{met, joined}
use Rattle.rows.proofs.Fill.{tabulated_length, tabulated_word}
use Rattle.laws.specs.Supported.{InRow}
use Rattle.laws.proofs.WordLaws.{zero_bit}
use Rattle.laws.proofs.ShiftLaws.{and-bit, of-and-bit}
use Rattle.laws.proofs.RowLaws.{Short}
use Rattle.laws.proofs.Supports.{or_words}

-- ---- a meet

pub met-length : (x y : List ℕ) → length (met x y) ≡ 64
unfolding met
met-length x y = tabulated_length (λ i. bit_and (word x i) (word y i)) 64

pub met-word : (x y : List ℕ) (i : ℕ) → i < 64 → word (met x y) i ≡ bit_and (word x i) (word y i)
unfolding met
met-word x y i h = tabulated_word (λ i. bit_and (word x i) (word y i)) 64 i h

-- a meet stands for the strings that both rows allow
pub in_met : (x y w : List ℕ) → Short w → InRow x w → InRow y w → InRow (met x y) w
in_met x y w s p q = record {
  length-bit = ap (λ (a : ℕ). bit a (length w)) (met-word x y 0 (omega arith)) ∙ and-bit (word x 0) (word y 0) (length w) p.length-bit q.length-bit;
  symbol-bits = λ j h. let k = s.length-short in
      ap (λ (a : ℕ). bit a (get_or w j 0)) (met-word x y (suc j) (omega arith)) ∙ and-bit (word x (suc j)) (word y (suc j)) (get_or w j 0) (p.symbol-bits j h) (q.symbol-bits j h);
}

-- a bit of a meet lies in both rows, and below the 64 words
pub met-bit : (x y : List ℕ) (i b : ℕ) → bit (word (met x y) i) b ≡ true → (bit (word x i) b ≡ true) × (bit (word y i) b ≡ true)
met-bit x y i b e = go (ltb i 64) refl
  where
    go : (t : Bool) → ltb i 64 ≡ t → (bit (word x i) b ≡ true) × (bit (word y i) b ≡ true)
    go true q = of-and-bit (word x i) (word y i) b (ap (λ (a : ℕ). bit a b) (sym (met-word x y i (ltb-true i 64 q))) ∙ e)
    go false q =
        let h = ltb-false i 64 q in
        let l = met-length x y in
        absurd (false≢true (sym (zero_bit b) ∙ ap (λ (a : ℕ). bit a b) (sym (get_or-eq_default (met x y) 0 (omega arith))) ∙ e))

pub of-met : (x y w : List ℕ) → InRow (met x y) w → InRow x w × InRow y w
of-met x y w p = (
  record { length-bit = (met-bit x y 0 (length w) p.length-bit).0; symbol-bits = λ j h. (met-bit x y (suc j) (get_or w j 0) (p.symbol-bits j h)).0 },
  record { length-bit = (met-bit x y 0 (length w) p.length-bit).1; symbol-bits = λ j h. (met-bit x y (suc j) (get_or w j 0) (p.symbol-bits j h)).1 },
)

pub met-words : (x y : List ℕ) → Words x → Words (met x y)
met-words x y bx i b e = bx i b (met-bit x y i b e).0

-- ---- a join is the union that the laws of support speak of

pub joined-or : (x y : List ℕ) → joined x y ≡ or_words 64 x y
unfolding joined or_words upto
joined-or x y = refl
