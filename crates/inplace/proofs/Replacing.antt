-- A row that takes the place of another. Assumes nothing.
use mathlib.Core.Path.{◌≡◌, refl, sym, ap, subst, ◌∙◌}
use mathlib.Core.Bool.{Bool, true, false, ◌||◌}
use mathlib.Core.List.{List}
use Prim.Native.Nat.{ℕ, zero, suc, ◌+◌, ◌*◌, ◌≤◌, ◌<◌}
use native.Mathlib.Omega.{arith}
use lib.Dec.{ltb}
use lib.ListN.{length}
use lib.Seq.{ext_get_or}
use borrow.Author.Tests.{ltb-true, ltb-false}
use Rattle.model.specs.Words.{bit, word}
use Rattle.model.specs.Domains.{row}
use Rattle.words.specs.Ends.{Highest}
use Rattle.rows.specs.Parts.{Cut}
use Rattle.rows.proofs.TrimLaws.{whole_row}
use Rattle.laws.proofs.DomainLaws.{row-length}
use Rattle.inplace.specs.InTable.{Tidy, Only, Ready, Shortened, Flag}
use Rattle.inplace.specs.Written.{Written, Replacing, Replaced}
use Rattle.inplace.proofs.Tables.{row_first, row-place, highest-one, highest-within, bit-some}
use Rattle.inplace.proofs.Sides.{Side, side-ended, side-flag}
use Rattle.inplace.proofs.Writing.{written-side, written-only}

pub replace-some : (T : List ℕ) (x : ℕ) (R : List ℕ) (j : ℕ) → Replacing T x R j → 0 < word R (64 * j)
replace-some T x R j q = subst (λ (w : ℕ). 0 < w) (row_first R j) (bit-some (word (row R j) 0) q.tidy-new.top q.tidy-new.longest.here)

module _ (T : List ℕ) (x : ℕ) (R : List ℕ) (j : ℕ) (q : Replacing T x R j) (top : ℕ) (longest : Highest (word R (64 * j)) top) where
  abbrev v : List ℕ
  v = row R j

  high : Highest (word v 0) top
  high = subst (λ (w : ℕ). Highest w top) (sym (row_first R j)) longest

  top-new : q.tidy-new.top ≡ top
  top-new = highest-one (word v 0) q.tidy-new.top top q.tidy-new.longest high

  below : top ≤ q.tidy.top
  below = highest-within (word v 0) (word (row T x) 0) top q.tidy.top q.within high q.tidy.longest

  module _ (U : List ℕ) (c : Bool) (t : Written T (64 * x) (λ i. word R (suc (64 * j + i))) top U c) where
    side : Side (row T x) v top (row U x) c
    side = let s = longest.small in written-side T x _ top U c (omega arith) q.fits v (λ i l. sym (row-place R j i (omega arith))) t

    only : Only T x U
    only = let s = longest.small in written-only T x _ top U c (omega arith) t

    pub replace-ready : Ready U x (word R (64 * j))
    replace-ready =
        let s = t.size in
        let f = q.fits in
        record {
          fits = omega arith;
          some = bit-some (word R (64 * j)) top longest.here;
          within = λ b e. ap (λ (w : ℕ). bit w b) (sym (row_first U x) ∙ side.first) ∙ q.within b (ap (λ (w : ℕ). bit w b) (row_first R j) ∙ e);
          ended = side-ended (row T x) v top (row U x) c q.tidy below side;
        }

    module _ (S : List ℕ) (d : Bool) (h : Shortened U x (word R (64 * j)) S d) where
      top-same : h.top ≡ top
      top-same = highest-one (word R (64 * j)) h.top top h.longest longest

      cut : Cut (row U x) (word R (64 * j)) top (row S x)
      cut = subst (λ (k : ℕ). Cut (row U x) (word R (64 * j)) k (row S x)) top-same h.cut

      new_row : row S x ≡ v
      new_row = ext_get_or 0 (row S x) v (cut.size ∙ sym (row-length R j q.fits-new))
          (elim [ zero ↦ λ l. cut.first ∙ sym (row_first R j) | suc i ↦ λ l. at i (ltb i top) refl ])
        where
          at : (i : ℕ) (s : Bool) → ltb i top ≡ s → word (row S x) (suc i) ≡ word v (suc i)
          at i true e = let l = ltb-true i top e in cut.kept i l ∙ side.low i l
          at i false e =
              let l = ltb-false i top e in
              let k = top-new in
              cut.gone i l ∙ sym (q.tidy-new.gone i (omega arith))

      pub replace-row : (r : Bool) → r ≡ (c || d) → Replaced T x v S r
      replace-row r e = record {
        only = record {
          size = h.only.size ∙ t.size;
          before = λ k l. h.only.before k l ∙ only.before k l;
          after = λ k l. h.only.after k l ∙ only.after k l;
        };
        same = new_row;
        flag = subst (Flag (row T x) (row S x)) (sym e) (side-flag (row T x) v top (row U x) c q.tidy below side (word R (64 * j)) top (row S x)
            (omega arith) cut d
            (λ z. ap (λ (L : List ℕ). row L x) (h.same z)) (λ z k. h.less z (sym (row_first U x) ∙ k)));
      }

-- ---- a row by itself

pub replacing_one : (T : List ℕ) (x : ℕ) (r : List ℕ) → 64 * x + 64 ≤ length T → Tidy (row T x) → length r ≡ 64 → Tidy r
    → ((b : ℕ) → bit (word r 0) b ≡ true → bit (word (row T x) 0) b ≡ true) → Replacing T x r 0
replacing_one T x r f t l n w =
    let e = whole_row r l in
    record { fits = f; fits-new = omega arith; tidy = t; tidy-new = subst Tidy (sym e) n; within = λ b k. w b (ap (λ (u : List ℕ). bit (word u 0) b) (sym e) ∙ k) }

pub replaced-one : (T : List ℕ) (x : ℕ) (r U : List ℕ) (c : Bool) → length r ≡ 64 → Replaced T x (row r 0) U c → row U x ≡ r
replaced-one T x r U c l p = p.same ∙ whole_row r l
