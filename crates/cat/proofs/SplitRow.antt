-- Cat where the first string has p symbols: the row of the whole string, and rows that are its parts. Assumes nothing.
use mathlib.Core.Path.{◌≡◌, refl, sym, ap, subst, ◌∙◌}
use mathlib.Core.Bool.{Bool, true, false, cond, false≢true}
use mathlib.Core.List.{List, [], ◌∷◌, ◌++◌, map}
use Prim.Native.Nat.{ℕ, zero, suc, ◌+◌, ◌-◌, ◌*◌, ◌/◌, ◌%◌, ◌^◌, ◌<◌}
use native.Mathlib.Omega.{arith}
use lib.Bits.{bit_and}
use lib.Dec.{ltb}
use lib.ListN.{length, replicate, get_or-eq_default}
use borrow.Author.Tests.{lt-ltb, le-ltb, ltb-true, ltb-false}
use Rattle.model.specs.Lists.{upto}
use Rattle.model.specs.Words.{bit, word, Words}
use Rattle.model.specs.Constraints.{cat}
use Rattle.model.specs.Solutions.{text_bit}
use Rattle.model.specs.Support.{narrowed}
use Rattle.rows.specs.Rows.{alone, trimmed}
use Rattle.rows.specs.Parts.{Window}
use Rattle.rows.proofs.Fill.{tabulated_length, tabulated_word}
use Rattle.rows.proofs.TrimLaws.{short}
use Rattle.laws.proofs.ListLaws.{and_true}
use Rattle.laws.proofs.WordLaws.{word_ext, zero_bit, pow-only}
use Rattle.laws.proofs.ShiftLaws.{and-bit, of-and-bit, bit-shr, bit_mask, bit-mod, of-shifted, in_shifted}
use Rattle.laws.specs.Supported.{Supports}
use Rattle.laws.proofs.Supports.{moved-support}
use Rattle.cat.specs.Splits.{Three, Split, Outside, Supported}
use Rattle.cat.proofs.CatLaws.{Whole, lengths-at, split_supported, split-empty, cat-narrowed}
use Rattle.inplace.proofs.Reach.{same_bit, of-short, in_short}

module _ (x y z : List ℕ) (p : ℕ) where
  place : ℕ → ℕ
  place i = cond (ltb i p) (bit_and (word z (suc i)) (word x (suc i))) (bit_and (word z (suc i)) (word y (suc (i - p))))

  -- the strings of this row are those of the third, each of them parted after p symbols
  pub whole_row : List ℕ
  whole_row = lengths-at (word y 0) (word z 0) p ∷ map place (upto 63)

  pub whole-first : word whole_row 0 ≡ lengths-at (word y 0) (word z 0) p
  unfolding whole_row
  whole-first = refl

  whole-place : (i : ℕ) → i < 63 → word whole_row (suc i) ≡ place i
  unfolding whole_row
  whole-place i h = tabulated_word place 63 i h

  pub whole-begun : p < 64 → (i : ℕ) → i < p → word whole_row (suc i) ≡ bit_and (word z (suc i)) (word x (suc i))
  unfolding place
  whole-begun small i h = whole-place i (omega arith) ∙ rw (lt-ltb i p h)

  pub whole-ended : (i : ℕ) → i < 63 - p → word whole_row (suc (p + i)) ≡ bit_and (word z (suc (p + i))) (word y (suc i))
  unfolding place
  whole-ended i h =
      let e : p + i - p ≡ i = omega arith in
      whole-place (p + i) (omega arith) ∙ rw (le-ltb (p + i) p (omega arith), e)

  pub whole : p < 64 → Whole x y z (lengths-at (word y 0) (word z 0) p) p whole_row
  unfolding whole_row
  whole small = record { size = ap suc (tabulated_length place 63); first = refl; begun = whole-begun small; ended = whole-ended }

  module _ (small : p < 64) (bx : Words x) (bY : Words y) (bz : Words z) (allowed : bit (word x 0) p ≡ true) where
    pub whole_words : Words whole_row
    whole_words zero b e = let s = of-shifted (bit_and (word z 0 / 2 ^ p) (word y 0)) p b (ap (λ (w : ℕ). bit w b) (sym whole-first) ∙ e) in
        let h = s.0 in
        let q : p + (b - p) ≡ b = omega arith in
        bz 0 b (ap (bit (word z 0)) (sym q) ∙ sym (bit-shr (word z 0) p (b - p)) ∙ (of-and-bit (word z 0 / 2 ^ p) (word y 0) (b - p) s.1).0)
    whole_words (suc i) b e = at (ltb i p) (ltb i 63) refl refl
      where
        at : (s t : Bool) → ltb i p ≡ s → ltb i 63 ≡ t → b < 64
        at true t q k = bz (suc i) b (of-and-bit (word z (suc i)) (word x (suc i)) b
            (ap (λ (w : ℕ). bit w b) (sym (whole-begun small i (ltb-true i p q))) ∙ e)).0
        at false true q k =
            let h = ltb-false i p q in
            let g = ltb-true i 63 k in
            let d : p + (i - p) ≡ i = omega arith in
            let f : word whole_row (suc i) ≡ bit_and (word z (suc i)) (word y (suc (i - p))) =
            ap (λ (j : ℕ). word whole_row (suc j)) (sym d) ∙ whole-ended (i - p) (omega arith) ∙ ap (λ (j : ℕ). bit_and (word z (suc j)) (word y (suc (i - p))))
            d in
            bz (suc i) b (of-and-bit (word z (suc i)) (word y (suc (i - p))) b (ap (λ (w : ℕ). bit w b) (sym f) ∙ e)).0
        at false false q k =
            let g = ltb-false i 63 k in
            let l = (whole small).size in
            absurd (false≢true (sym (zero_bit b) ∙ ap (λ (w : ℕ). bit w b) (sym (get_or-eq_default whole_row 0 (omega arith))) ∙ e))

    -- no choice, and the parts of the trimmed row
    pub split-none : replicate 64 0 ≡ trimmed whole_row → (v : Three) → Split x y z p v → ⊥
    split-none e = split-empty x y z p small bz allowed whole_row whole_words (whole small) (ap (λ (r : List ℕ). word r 0) (sym e))

    pub split-some : (rx ry rz : List ℕ) → rz ≡ trimmed whole_row → Words rz → 0 < word rz 0 → Window rz (2 ^ p) 0 p rx
        → Window rz (word rz 0 / 2 ^ p) p (63 - p) ry
        → Supported (Split x y z p) rx ry rz
    split-some rx ry rz e bd h a b = split_supported x y z p small bz allowed whole_row whole_words (whole small) rz rx ry e bd h a b

    module _ (lx : length x ≡ 64) (ly : length y ≡ 64) (lz : length z ≡ 64) (one : word x 0 ≡ 2 ^ p) where
      -- a choice has a first string of p symbols
      only-split : (f : Three → ℕ → ℕ) (r : List ℕ) → Supports (Split x y z p) f 64 r → Supports (Outside x y z 0) f 64 r
      only-split f r = moved-support (Split x y z p) (Outside x y z 0) f f 64 r (λ v s. (v, (p, zero_bit p, s), λ i h. refl))
          (λ v k. let s = k.2 in
          let e : k.0 ≡ p = sym s.long ∙ pow-only p (length v.first) (ap (λ (w : ℕ). bit w (length v.first)) (sym one) ∙ s.in_first.length-bit) in
          (v, subst (λ (n : ℕ). Split x y z n v) e s, λ i h. refl))

      pub parts-narrowed : (rx ry rz : List ℕ) → Supported (Split x y z p) rx ry rz → rx ++ (ry ++ rz) ≡ narrowed (alone 3 0 []) (cat 0 1 2) (x ++ (y ++ z))
      parts-narrowed rx ry rz s = cat-narrowed x y z lx ly lz bx bY bz rx ry rz (record {
        firsts = only-split (λ v. text_bit v.first) rx s.firsts;
        seconds = only-split (λ v. text_bit v.second) ry s.seconds;
        thirds = only-split (λ v. text_bit v.third) rz s.thirds;
      })

-- ---- lengths, moved by p

-- the lengths up to m, moved, are the moved lengths up to p + m
pub moved-short : (r : List ℕ) (c p m mask : ℕ) → word r 0 ≡ c * 2 ^ p % 2 ^ 64 → mask ≡ 2 ^ (m + 1) - 1 → bit_and c mask * 2 ^ p % 2 ^ 64 ≡ short r (p + m)
moved-short r c p m mask e em = word_ext _ _ (λ b. same_bit _ _
    (λ q. let s = of-shifted (bit_and c mask) p b q in
    let h = s.0 in
    let t = of-and-bit c mask (b - p) s.1 in
    let l = ltb-true (b - p) (m + 1) (sym (bit_mask (m + 1) (b - p)) ∙ ap (λ (w : ℕ). bit w (b - p)) (sym em) ∙ t.1) in
    in_short r (p + m) b (ap (λ (w : ℕ). bit w b) e ∙ in_shifted c p b (shifted-small (bit_and c mask) p b q) h t.0) (omega arith))
    (λ q. let s = of-short r (p + m) b q in
    let k = s.1 in
    let f = ap (λ (w : ℕ). bit w b) (sym e) ∙ s.0 in
    let t = of-shifted c p b f in
    let h = t.0 in
    in_shifted (bit_and c mask) p b (shifted-small c p b f) h
    (and-bit c mask (b - p) t.1 (ap (λ (w : ℕ). bit w (b - p)) em ∙ bit_mask (m + 1) (b - p) ∙ lt-ltb (b - p) (m + 1) (omega arith)))))
  where
    shifted-small : (w p b : ℕ) → bit (w * 2 ^ p % 2 ^ 64) b ≡ true → b < 64
    shifted-small w p b q = ltb-true b 64 (and_true (bit (w * 2 ^ p) b) (ltb b 64) (sym (bit-mod (w * 2 ^ p) 64 b) ∙ q)).1
