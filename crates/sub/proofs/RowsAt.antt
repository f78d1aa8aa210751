-- The two rows of one start: which strings of X, and which of Y, they stand for. Assumes nothing.
use Rattle.std.specs.Prelude.{min}
use mathlib.Core.Path.{◌≡◌, refl, sym, ap, subst, ◌∙◌}
use mathlib.Core.Logic.{◌≢◌}
use mathlib.Core.Bool.{Bool, true, false, cond, false≢true}
use mathlib.Core.List.{List, ◌∷◌, map}
use Prim.Native.Nat.{ℕ, zero, suc, ◌+◌, ◌-◌, ◌*◌, ◌/◌, ◌%◌, ◌^◌, ◌≤◌, ◌<◌}
use native.Mathlib.Omega.{arith}
use lib.Bits.{bit_and}
use lib.Dec.{ltb}
use lib.ListN.{length, get_or, get_or-eq_default}
use borrow.Author.Tests.{ltb-true, ltb-false, lt-ltb, le-ltb}
use Rattle.model.specs.Lists.{upto}
use Rattle.model.specs.Words.{bit, word, Words}
use Rattle.model.specs.Solutions.{text_bit}
use Rattle.words.specs.Ends.{Highest}
use Rattle.rows.proofs.Fill.{tabulated_length, tabulated_word}
use Rattle.laws.specs.Supported.{InRow, Supports}
use Rattle.laws.proofs.WordLaws.{zero_bit}
use Rattle.laws.proofs.ShiftLaws.{and-bit, of-and-bit, bit-shr, bit_mask, of-shifted, in_shifted}
use Rattle.laws.proofs.RowLaws.{short-of}
use Rattle.laws.proofs.Supports.{moved-support}
use Rattle.inplace.specs.InTable.{Tidy}
use Rattle.inplace.proofs.Tables.{highest-most, bit-some}
use Rattle.sub.specs.Substrings.{Alive, Allowed, Fitting, common}
use Rattle.inplace.proofs.Parts.{tidy-supports}

-- ---- a word without its bits below n

pub of-high-bits : (w n b : ℕ) → bit (w / 2 ^ n * 2 ^ n % 2 ^ 64) b ≡ true → (n ≤ b) × (bit w b ≡ true)
of-high-bits w n b e =
    let s = of-shifted (w / 2 ^ n) n b e in
    let h = s.0 in
    let q : n + (b - n) ≡ b = omega arith in
    (h, ap (bit w) (sym q) ∙ sym (bit-shr w n (b - n)) ∙ s.1)

pub in_high-bits : (w n b : ℕ) → b < 64 → n ≤ b → bit w b ≡ true → bit (w / 2 ^ n * 2 ^ n % 2 ^ 64) b ≡ true
in_high-bits w n b l h e = let q : n + (b - n) ≡ b = omega arith in in_shifted (w / 2 ^ n) n b l h (bit-shr w n (b - n) ∙ ap (bit w) q ∙ e)

-- ---- a row by its lengths and the words of its places

module _ (ls : ℕ) (f : ℕ → ℕ) where
  row_of : List ℕ
  row_of = ls ∷ map f (upto 63)

  row_of-length : length row_of ≡ 64
  unfolding row_of
  row_of-length = ap suc (tabulated_length f 63)

  row_of-first : word row_of 0 ≡ ls
  unfolding row_of
  row_of-first = refl

  row_of-place : (j : ℕ) → j < 63 → word row_of (suc j) ≡ f j
  unfolding row_of
  row_of-place j h = tabulated_word f 63 j h

  row_of-past : (j : ℕ) → 63 ≤ j → word row_of (suc j) ≡ 0
  row_of-past j h = let l = row_of-length in get_or-eq_default row_of 0 (omega arith)

-- ---- X: a string of at least off + least symbols, with Y's symbols after off

-- w is a string of x that has m symbols that y allows after off symbols
pub record Holds (x y : List ℕ) (off m : ℕ) (w : List ℕ) : Type 0 where
  pub inside : InRow x w
  pub long : off + m ≤ length w
  pub allowed : (j : ℕ) → j < m → bit (word y (suc j)) (get_or w (off + j) 0) ≡ true

module _ (x y : List ℕ) (off least : ℕ) where
  place : ℕ → ℕ
  place j = cond (ltb j off) (word x (suc j)) (cond (ltb j (off + least)) (common x y off (j - off)) (word x (suc j)))

  pub whole_row : List ℕ
  whole_row = row_of (word x 0 / 2 ^ (off + least) * 2 ^ (off + least) % 2 ^ 64) place

  -- a place lies in the part, or not
  by_place : (P : ℕ → ℕ → Type 0) → ((j : ℕ) → ((i : ℕ) → i < least → j ≢ off + i) → P j (word x (suc j)))
      → ((i : ℕ) → i < least → P (off + i) (common x y off i)) → (j : ℕ) → P j (place j)
  unfolding place
  by_place P outside inside j = at (ltb j off) refl (ltb j (off + least)) refl
    where
      at : (s : Bool) → ltb j off ≡ s → (t : Bool) → ltb j (off + least) ≡ t
          → P j (cond s (word x (suc j)) (cond t (common x y off (j - off)) (word x (suc j))))
      at true p t q = let h = ltb-true j off p in outside j (λ i l e. omega arith)
      at false p true q =
          let h = ltb-false j off p in
          let k = ltb-true j (off + least) q in
          let e : off + (j - off) ≡ j = omega arith in
          subst (λ (z : ℕ). P z (common x y off (j - off))) e (inside (j - off) (omega arith))
      at false p false q = let k = ltb-false j (off + least) q in outside j (λ i l e. omega arith)

  module _ (bx : Words x) where
    pub whole_of : (i a : ℕ) → i < 64 → bit (word whole_row i) a ≡ true → Allowed x y off least i a
    unfolding whole_row
    whole_of zero a h e =
        let t = of-high-bits (word x 0) (off + least) a (ap (λ (w : ℕ). bit w a) (sym (row_of-first _ place)) ∙ e) in
        record { own = t.1; long = λ q. t.0; part = λ j l q. absurd (omega arith) }
    whole_of (suc j) a h e = by_place (λ j w. bit w a ≡ true → Allowed x y off least (suc j) a)
        (λ j n q. record { own = q; long = λ p. absurd (omega arith); part = λ i l p. absurd (n i l (omega arith)) })
        (λ i l q. let t = of-and-bit (word x (suc (off + i))) (word y (suc i)) a q in
        record {
          own = t.0;
          long = λ p. absurd (omega arith);
          part = λ k g p. let d : k ≡ i = omega arith in ap (λ (z : ℕ). bit (word y (suc z)) a) d ∙ t.1;
        }) j (ap (λ (w : ℕ). bit w a) (sym (row_of-place _ place j (omega arith))) ∙ e)

    pub whole_in : (i a : ℕ) → i < 64 → Allowed x y off least i a → bit (word whole_row i) a ≡ true
    unfolding whole_row
    whole_in zero a h t = ap (λ (w : ℕ). bit w a) (row_of-first _ place) ∙ in_high-bits (word x 0) (off + least) a (bx 0 a t.own) (t.long refl)
        t.own
    whole_in (suc j) a h t = ap (λ (w : ℕ). bit w a) (row_of-place _ place j (omega arith)) ∙ by_place (λ j w. Allowed x y off least (suc j) a → bit w a ≡ true)
        (λ j n t. t.own) (λ i l t. and-bit (word x (suc (off + i))) (word y (suc i)) a t.own (t.part i l refl)) j t

    whole_words : Words whole_row
    unfolding whole_row
    whole_words i a e = go (ltb i 64) refl
      where
        go : (t : Bool) → ltb i 64 ≡ t → a < 64
        go true q = bx i a (whole_of i a (ltb-true i 64 q) e).own
        go false q =
            let h = ltb-false i 64 q in
            let l = row_of-length (word x 0 / 2 ^ (off + least) * 2 ^ (off + least) % 2 ^ 64) place in
            absurd (false≢true (sym (zero_bit a) ∙ ap (λ (w : ℕ). bit w a) (sym (get_or-eq_default whole_row 0 (omega arith))) ∙ e))

    of_holding : (w : List ℕ) → InRow whole_row w → Holds x y off least w
    of_holding w i =
        let s = (short-of whole_row whole_words w i).length-short in
        let f = whole_of 0 (length w) (omega arith) i.length-bit in
        let at : (j : ℕ) → j < length w → Allowed x y off least (suc j) (get_or w j 0) = λ j h. whole_of (suc j) (get_or w j 0) (omega arith) (i.symbol-bits j h)
        in
        let k = f.long refl in
        record {
          inside = record { length-bit = f.own; symbol-bits = λ j h. (at j h).own };
          long = k;
          allowed = λ j h. (at (off + j) (omega arith)).part j h refl;
        }

    in_holding : (w : List ℕ) → Holds x y off least w → InRow whole_row w
    in_holding w h =
        let s = (short-of x bx w h.inside).length-short in
        record {
          length-bit = whole_in 0 (length w) (omega arith) (record { own = h.inside.length-bit; long = λ e. h.long; part = λ j l e. absurd (omega arith) });
          symbol-bits = λ j l. whole_in (suc j) (get_or w j 0) (omega arith) (record {
            own = h.inside.symbol-bits j l;
            long = λ e. absurd (omega arith);
            part = λ i g e. let d : off + i ≡ j = omega arith in ap (λ (z : ℕ). bit (word y (suc i)) (get_or w z 0)) (sym d) ∙ h.allowed i g;
          });
        }

    module _ (tidy : Tidy x) (alive : Alive x y off least tidy.top) where
      whole-tidy : Tidy whole_row
      unfolding whole_row
      whole-tidy =
          let s = tidy.longest.small in
          let k = alive.far in
          record {
            top = tidy.top;
            longest = record {
              small = s;
              here = whole_in 0 tidy.top (omega arith) (record { own = tidy.longest.here; long = λ e. k; part = λ j l e. absurd (omega arith) });
              above = λ i h. above i h (bit (word whole_row 0) i) refl;
            };
            filled = λ i h. subst (λ (w : ℕ). 0 < w) (sym (row_of-place _ place i (omega arith)))
                (by_place (λ j w. j < tidy.top → 0 < w) (λ j n l. tidy.filled j l) (λ j l g. alive.filled j l) i h);
            gone = λ i h. gone i h (ltb i 63) refl;
          }
        where
          above : (i : ℕ) → tidy.top < i → (t : Bool) → bit (word whole_row 0) i ≡ t → t ≡ false
          above i h true e = absurd (false≢true (sym (tidy.longest.above i h) ∙ (whole_of 0 i (omega arith) e).own))
          above i h false e = refl

          gone : (i : ℕ) → tidy.top ≤ i → (t : Bool) → ltb i 63 ≡ t → word whole_row (suc i) ≡ 0
          gone i h true q =
              let k = alive.far in
              row_of-place _ place i (ltb-true i 63 q) ∙ by_place (λ j w. tidy.top ≤ j → w ≡ 0) (λ j n l. tidy.gone j l) (λ j l g. absurd (omega arith)) i h
          gone i h false q = row_of-past _ place i (ltb-false i 63 q)

      pub whole-supports : Supports (Holds x y off least) text_bit 64 whole_row
      unfolding whole_row
      whole-supports = moved-support (InRow whole_row) (Holds x y off least) text_bit text_bit 64 whole_row
          (λ w i. (w, of_holding w i, λ j h. refl)) (λ w h. (w, in_holding w h, λ j k. refl))
          (tidy-supports whole_row whole-tidy whole_words (row_of-length _ place))

-- ---- Y: a string with X's symbols after off, no longer than X allows there

module _ (x y : List ℕ) (off top most lim m : ℕ) (bY : Words y) (high : Highest (word y 0) most) (le : lim ≡ min most (top - off)) (near : off ≤ top)
    (within : m ≤ lim)
    (filled : (j : ℕ) → j < m → 0 < common x y off j) (stop : m < lim → common x y off m ≡ 0) (ls h : ℕ) (short : ls ≡ bit_and (word y 0) (2 ^ (m + 1) - 1))
    (longest : Highest ls h) where
  part_at : ℕ → ℕ
  part_at j = cond (ltb j h) (common x y off j) 0

  pub part_row : List ℕ
  part_row = row_of ls part_at

  of-ls : (b : ℕ) → bit ls b ≡ true → (bit (word y 0) b ≡ true) × (b ≤ m)
  of-ls b e =
      let t = of-and-bit (word y 0) (2 ^ (m + 1) - 1) b (ap (λ (w : ℕ). bit w b) (sym short) ∙ e) in
      let k = ltb-true b (m + 1) (sym (bit_mask (m + 1) b) ∙ t.1) in
      (t.0, omega arith)

  in_ls : (b : ℕ) → bit (word y 0) b ≡ true → b ≤ m → bit ls b ≡ true
  in_ls b e l = ap (λ (w : ℕ). bit w b) short ∙ and-bit (word y 0) (2 ^ (m + 1) - 1) b e (bit_mask (m + 1) b ∙ lt-ltb b (m + 1) (omega arith))

  pub part-first : word part_row 0 ≡ ls
  unfolding part_row
  part-first = row_of-first ls part_at

  pub part-inside : (j : ℕ) → j < h → word part_row (suc j) ≡ common x y off j
  unfolding part_row part_at
  part-inside j l = let s = longest.small in row_of-place ls part_at j (omega arith) ∙ rw (lt-ltb j h l)

  pub part-past : (j : ℕ) → h ≤ j → word part_row (suc j) ≡ 0
  unfolding part_row part_at
  part-past j l = go (ltb j 63) refl
    where
      go : (t : Bool) → ltb j 63 ≡ t → word part_row (suc j) ≡ 0
      go true q = row_of-place ls part_at j (ltb-true j 63 q) ∙ rw (le-ltb j h l)
      go false q = row_of-past ls part_at j (ltb-false j 63 q)

  part-words : Words part_row
  part-words zero b e = bY 0 b (of-ls b (ap (λ (w : ℕ). bit w b) (sym part-first) ∙ e)).0
  part-words (suc j) b e = go (ltb j h) refl
    where
      go : (t : Bool) → ltb j h ≡ t → b < 64
      go true q = bY (suc j) b (of-and-bit (word x (suc (off + j))) (word y (suc j)) b (ap (λ (w : ℕ). bit w b) (sym (part-inside j (ltb-true j h q))) ∙ e)).1
      go false q = absurd (false≢true (sym (zero_bit b) ∙ ap (λ (w : ℕ). bit w b) (sym (part-past j (ltb-false j h q))) ∙ e))

  part-tidy : Tidy part_row
  part-tidy =
      let k = (of-ls h longest.here).1 in
      record {
        top = h;
        longest = subst (λ (w : ℕ). Highest w h) (sym part-first) longest;
        filled = λ j l. subst (λ (w : ℕ). 0 < w) (sym (part-inside j l)) (filled j (omega arith));
        gone = part-past;
      }

  of-fitting : (w : List ℕ) → InRow part_row w → Fitting x y off top w
  of-fitting w i =
      let lb : bit ls (length w) ≡ true = ap (λ (u : ℕ). bit u (length w)) (sym part-first) ∙ i.length-bit in
      let t = of-ls (length w) lb in
      let k = t.1 in
      let z = highest-most ls h (length w) longest lb in
      let at : (j : ℕ) → j < length w → (bit (word x (suc (off + j))) (get_or w j 0) ≡ true) × (bit (word y (suc j)) (get_or w j 0) ≡ true) = λ j l.
      of-and-bit (word x (suc (off + j))) (word y (suc j)) (get_or w j 0)
      (ap (λ (u : ℕ). bit u (get_or w j 0)) (sym (part-inside j (omega arith))) ∙ i.symbol-bits j l) in
      record { inside = record { length-bit = t.0; symbol-bits = λ j l. (at j l).1 }; short = omega arith; allowed = λ j l. (at j l).0 }

  in_fitting : (w : List ℕ) → Fitting x y off top w → InRow part_row w
  in_fitting w f =
      let both : (j : ℕ) → j < length w → bit (common x y off j) (get_or w j 0) ≡ true = λ j l.
      and-bit (word x (suc (off + j))) (word y (suc j)) (get_or w j 0) (f.allowed j l) (f.inside.symbol-bits j l) in
      let lb = in_ls (length w) f.inside.length-bit (go both (ltb m (length w)) refl) in
      let z = highest-most ls h (length w) longest lb in
      record {
        length-bit = ap (λ (u : ℕ). bit u (length w)) part-first ∙ lb;
        symbol-bits = λ j l. ap (λ (u : ℕ). bit u (get_or w j 0)) (part-inside j (omega arith)) ∙ both j l;
      }
    where
      go : ((j : ℕ) → j < length w → bit (common x y off j) (get_or w j 0) ≡ true) → (t : Bool) → ltb m (length w) ≡ t → length w ≤ m
      go both true q =
          let l = ltb-true m (length w) q in
          let s = f.short in
          let k = highest-most (word y 0) most (length w) high f.inside.length-bit in
          let z = stop (omega arith) in
          let p = bit-some (common x y off m) (get_or w m 0) (both m l) in
          absurd (omega arith)
      go both false q = ltb-false m (length w) q

  pub part-supports : Supports (Fitting x y off top) text_bit 64 part_row
  unfolding part_row
  part-supports = moved-support (InRow part_row) (Fitting x y off top) text_bit text_bit 64 part_row (λ w i. (w, of-fitting w i, λ j l. refl))
      (λ w f. (w, in_fitting w f, λ j l. refl))
      (tidy-supports part_row part-tidy part-words (row_of-length ls part_at))
