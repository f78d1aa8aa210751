-- Rows of a table that only some rows of differ. Assumes nothing.
use mathlib.Core.Path.{◌≡◌, refl, sym, ap, ap₂, subst, ◌∙◌}
use mathlib.Core.Logic.{◌≢◌}
use mathlib.Core.Bool.{Bool, true, false, false≢true}
use mathlib.Core.List.{List}
use Prim.Native.Nat.{ℕ, zero, suc, ◌+◌, ◌-◌, ◌*◌, ◌^◌, ◌≤◌, ◌<◌}
use native.Mathlib.Omega.{arith}
use lib.Bits.{bit_and}
use lib.Dec.{ltb}
use lib.ListN.{length, set, length-set}
use lib.Seq.{ext_get_or, get_or-set_same, get_or-set_other}
use borrow.Author.Tests.{ltb-true, ltb-false}
use Rattle.model.specs.Words.{bit, word, Words}
use Rattle.model.specs.Domains.{row}
use Rattle.words.specs.Ends.{Highest}
use Rattle.rows.specs.Rows.{stored}
use Rattle.rows.specs.Parts.{Cut}
use Rattle.rows.proofs.TrimLaws.{short}
use Rattle.rows.proofs.StoreLaws.{stored-length, stored-before, stored-after, stored-inside}
use Rattle.laws.proofs.DomainLaws.{row_word, row-length, row-past, row_words}
use Rattle.laws.specs.Inclusion.{Within}
use Rattle.laws.proofs.WordLaws.{zero_bit}
use Rattle.inplace.proofs.Reach.{Reach, empty-none, reach-none, reach-right, reach-tidy}
use Rattle.inplace.specs.InTable.{Out, Only, Ready, Cleared, Shortened, Ran, Trimmed}

-- where only row x differs the table is the old one with the new row
pub only-stored : (T : List ℕ) (x : ℕ) (U : List ℕ) → 64 * x + 64 ≤ length T → Only T x U → U ≡ stored T x (row U x)
only-stored T x U f o = ext_get_or 0 U (stored T x (row U x)) (o.size ∙ sym (stored-length T x (row U x) f lr)) (λ i h. at i (ltb i (64 * x)) (ltb i (64 * x + 64)) refl refl)
  where
    lr : length (row U x) ≡ 64
    lr = let s = o.size in row-length U x (omega arith)

    at : (i : ℕ) (s t : Bool) → ltb i (64 * x) ≡ s → ltb i (64 * x + 64) ≡ t → word U i ≡ word (stored T x (row U x)) i
    at i true t p q = let h = ltb-true i (64 * x) p in o.before i h ∙ sym (stored-before T x (row U x) f lr i h)
    at i false true p q =
        let a = ltb-false i (64 * x) p in
        let b = ltb-true i (64 * x + 64) q in
        let d : 64 * x + (i - 64 * x) ≡ i = omega arith in
        let j : i - 64 * x < 64 = omega arith in
        ap (word U) (sym d) ∙ sym (row_word U x (i - 64 * x) j) ∙ sym (stored-inside T x (row U x) f lr (i - 64 * x) j) ∙ ap (word (stored T x (row U x))) d
    at i false false p q = let h = ltb-false i (64 * x + 64) q in o.after i h ∙ sym (stored-after T x (row U x) f lr i h)

pub only_refl : (T : List ℕ) (x : ℕ) → Only T x T
only_refl T x = record { size = refl; before = λ k h. refl; after = λ k h. refl }

-- a row is the same where its words are
pub same_row : (T : List ℕ) (y : ℕ) (U : List ℕ) → length U ≡ length T → 64 * y + 64 ≤ length T → ((j : ℕ) → j < 64 → word U (64 * y + j) ≡ word T (64 * y + j)) → row U y ≡ row T y
same_row T y U e g h =
    let lU : length (row U y) ≡ 64 = row-length U y (omega arith) in
    ext_get_or 0 (row U y) (row T y) (lU ∙ sym (row-length T y g)) (λ j l.
    let k : j < 64 = omega arith in row_word U y j k ∙ h j k ∙ sym (row_word T y j k))

-- another row is as it was
pub only-other : (T : List ℕ) (x : ℕ) (U : List ℕ) → Only T x U → (y : ℕ) → 64 * y + 64 ≤ length T → y ≢ x → row U y ≡ row T y
only-other T x U o y g n = same_row T y U o.size g (λ j k. at j k (ltb y x) refl)
  where
    at : (j : ℕ) → j < 64 → (t : Bool) → ltb y x ≡ t → word U (64 * y + j) ≡ word T (64 * y + j)
    at j k true q = let h = ltb-true y x q in o.before (64 * y + j) (omega arith)
    at j k false q = let h = ltb-false y x q in o.after (64 * y + j) (omega arith)

pub only_out : (T : List ℕ) (x : ℕ) (U : List ℕ) → Only T x U → (k : ℕ) → Out x k → word U k ≡ word T k
only_out T x U o k n = at (ltb k (64 * x)) (ltb k (64 * x + 64)) refl refl
  where
    at : (s t : Bool) → ltb k (64 * x) ≡ s → ltb k (64 * x + 64) ≡ t → word U k ≡ word T k
    at true t p q = o.before k (ltb-true k (64 * x) p)
    at false true p q =
        let a = ltb-false k (64 * x) p in
        let b = ltb-true k (64 * x + 64) q in
        absurd (n (k - 64 * x) (omega arith) (omega arith))
    at false false p q = o.after k (ltb-false k (64 * x + 64) q)

-- ---- the words of a row

pub row_first : (T : List ℕ) (x : ℕ) → word (row T x) 0 ≡ word T (64 * x)
row_first T x = let e : 64 * x + 0 ≡ 64 * x = omega arith in row_word T x 0 (omega arith) ∙ ap (word T) e

pub row-place : (T : List ℕ) (x i : ℕ) → i < 63 → word (row T x) (suc i) ≡ word T (suc (64 * x + i))
row-place T x i h = let e : 64 * x + suc i ≡ suc (64 * x + i) = omega arith in row_word T x (suc i) (omega arith) ∙ ap (word T) e

-- ---- the highest bit

pub highest-most : (w h b : ℕ) → Highest w h → bit w b ≡ true → b ≤ h
highest-most w h b k e = go (ltb h b) refl
  where
    go : (t : Bool) → ltb h b ≡ t → b ≤ h
    go true q = absurd (false≢true (sym (k.above b (ltb-true h b q)) ∙ e))
    go false q = ltb-false h b q

pub highest-one : (w a b : ℕ) → Highest w a → Highest w b → a ≡ b
highest-one w a b p q =
    let k = highest-most w b a q p.here in
    let l = highest-most w a b p q.here in
    omega arith

pub highest-within : (w v a b : ℕ) → Within w v → Highest w a → Highest v b → a ≤ b
highest-within w v a b i p q = highest-most v b a q (i a p.here)

pub bit-some : (w b : ℕ) → bit w b ≡ true → 0 < w
bit-some zero b e = absurd (false≢true (sym (zero_bit b) ∙ e))
bit-some (suc w) b e = omega arith

-- ---- lengths written, and places cleared up to h, past which there is nothing

module _ (T : List ℕ) (x ls top h : ℕ) (U : List ℕ) (f : 64 * x + 64 ≤ length T) (small : h < 64) (past : (i : ℕ) → h ≤ i → word (row T x) (suc i) ≡ 0)
    (c : Cleared (set T (64 * x) ls) (64 * x) top h U) where
  other : (k : ℕ) → ((i : ℕ) → top ≤ i → i < h → k ≢ suc (64 * x + i)) → k ≢ 64 * x → word U k ≡ word T k
  other k n e = c.kept k n ∙ get_or-set_other T (64 * x) k ls 0 e

  pub cleared-only : Only T x U
  cleared-only = record {
    size = c.size ∙ length-set T (64 * x) ls;
    before = λ k l. other k (λ i p q e. omega arith) (λ e. omega arith);
    after = λ k l. other k (λ i p q e. omega arith) (λ e. omega arith);
  }

  pub cleared-cut : Cut (row T x) ls top (row U x)
  cleared-cut = record {
    size = let s = cleared-only.size in row-length U x (omega arith);
    first = row_first U x ∙ c.kept (64 * x) (λ i p q e. omega arith) ∙ get_or-set_same T (64 * x) ls 0 (omega arith);
    kept = λ i l. at i l (ltb i 63) refl;
    gone = λ i l. none i l (ltb i 63) (ltb i h) refl refl;
  }
    where
      at : (i : ℕ) → i < top → (t : Bool) → ltb i 63 ≡ t → word (row U x) (suc i) ≡ word (row T x) (suc i)
      at i l true q =
          let k = ltb-true i 63 q in
          row-place U x i k ∙ other (suc (64 * x + i)) (λ j p r e. omega arith) (λ e. omega arith) ∙ sym (row-place T x i k)
      at i l false q = let k = ltb-false i 63 q in row-past U x (suc i) (omega arith) ∙ sym (row-past T x (suc i) (omega arith))

      none : (i : ℕ) → top ≤ i → (s t : Bool) → ltb i 63 ≡ s → ltb i h ≡ t → word (row U x) (suc i) ≡ 0
      none i l true true p q = row-place U x i (ltb-true i 63 p) ∙ c.gone i l (ltb-true i h q)
      none i l true false p q =
          let k = ltb-true i 63 p in
          let g = ltb-false i h q in
          row-place U x i k ∙ other (suc (64 * x + i)) (λ j r s e. omega arith) (λ e. omega arith) ∙ sym (row-place T x i k) ∙ past i g
      none i l false t p q = let k = ltb-false i 63 p in row-past U x (suc i) (omega arith)

-- ---- what `shorten` ensures

pub shorten-same : (T : List ℕ) (x ls : ℕ) → Ready T x ls → word T (64 * x) ≡ ls → Shortened T x ls T false
shorten-same T x ls r e = record {
  only = only_refl T x;
  top = r.ended.top;
  longest = subst (λ (w : ℕ). Highest w r.ended.top) (row_first T x ∙ e) r.ended.longest;
  cut = record { size = row-length T x r.fits; first = row_first T x ∙ e; kept = λ i l. refl; gone = r.ended.past };
  same = λ q. refl;
  less = λ q. absurd (false≢true q);
}

pub shorten-less : (T : List ℕ) (x ls : ℕ) → Ready T x ls → word T (64 * x) ≢ ls → (top h : ℕ) → Highest ls top → Highest (word T (64 * x)) h → (U : List ℕ)
    → Cleared (set T (64 * x) ls) (64 * x) top h U → Shortened T x ls U true
shorten-less T x ls r d top h p q U c =
    let e = highest-one (word T (64 * x)) r.ended.top h (subst (λ (w : ℕ). Highest w r.ended.top) (row_first T x) r.ended.longest) q in
    let past : (i : ℕ) → h ≤ i → word (row T x) (suc i) ≡ 0 = λ i l. r.ended.past i (omega arith) in
    record {
      only = cleared-only T x ls top h U r.fits q.small past c;
      top = top;
      longest = p;
      cut = cleared-cut T x ls top h U r.fits q.small past c;
      same = λ k. absurd (false≢true (sym k));
      less = λ k. d;
    }

-- ---- what `tidy` ensures

module _ (T : List ℕ) (x : ℕ) (f : 64 * x + 64 ≤ length T) (bd : Words T) where
  pub tidy-empty : word T (64 * x) ≡ 0 → Trimmed T x T false
  tidy-empty z = record {
    left = λ q. absurd (false≢true q);
    nothing = λ q. (refl, empty-none (row T x) (row_words T bd x) (row-length T x f) (row_first T x ∙ z));
  }

  module _ (h m : ℕ) (high : Highest (word T (64 * x)) h) (ran : Ran T (64 * x) h m) where
    ran_reach : Reach (row T x) m
    ran_reach =
        let hs = high.small in
        let ms = ran.small in
        record {
          small = omega arith;
          filled = λ i l. subst (λ (w : ℕ). 0 < w) (sym (row-place T x i (omega arith))) (ran.filled i l);
          stop = λ n e l.
              let k = highest-most (word T (64 * x)) h n high (ap (λ (w : ℕ). bit w n) (sym (row_first T x)) ∙ e) in
              row-place T x m (omega arith) ∙ ran.stop (omega arith);
        }

    module _ (mask : ℕ) (e : mask ≡ 2 ^ (m + 1) - 1) where
      abbrev ls : ℕ
      ls = bit_and (word T (64 * x)) mask

      is-short : ls ≡ short (row T x) m
      is-short = ap₂ bit_and (sym (row_first T x)) e

      pub tidy-none : ls ≡ 0 → Trimmed T x T false
      tidy-none z = record {
        left = λ q. absurd (false≢true q);
        nothing = λ q. (refl, reach-none (row T x) m (row_words T bd x) ran_reach (row-length T x f) (sym is-short ∙ z));
      }

      pub tidy-some : (top : ℕ) → Highest ls top → (U : List ℕ) → Cleared (set T (64 * x) ls) (64 * x) top 63 U → Trimmed T x U true
      tidy-some top p U c =
          let past : (i : ℕ) → 63 ≤ i → word (row T x) (suc i) ≡ 0 = λ i l. row-past T x (suc i) (omega arith) in
          let cut = subst (λ (w : ℕ). Cut (row T x) w top (row U x)) is-short (cleared-cut T x ls top 63 U f (omega arith) past c) in
          let p' = subst (λ (w : ℕ). Highest w top) is-short p in
          let right = reach-right (row T x) m (row_words T bd x) ran_reach (row-length T x f) top p' (row U x) cut in
          record {
            left = λ q. (
              only-stored T x U f (cleared-only T x ls top 63 U f (omega arith) past c) ∙ ap (stored T x) right,
              reach-tidy (row T x) m (row_words T bd x) ran_reach (row-length T x f) top p' (row U x) cut,
            );
            nothing = λ q. absurd (false≢true (sym q));
          }
