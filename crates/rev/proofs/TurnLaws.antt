-- The loops of Rev: places that face each other, as they are read, met in place, and added to a row. Assumes nothing.
use Rattle.std.specs.Prelude.{None, MatchBool}
use Rattle.std.specs.List.{range_with_len, AllWithin, HoldsAt}
use Rattle.std.proofs.lemmas.List.FromFn.{length-range_with_len, get_or-range_with_len}
use mathlib.Core.Path.{◌≡◌, refl, sym, ap, ap₂, subst, ◌∙◌}
use mathlib.Core.Logic.{◌≢◌, ◌⊎◌, inl, ⊎_elim}
use mathlib.Core.Bool.{Bool, true, false}
use mathlib.Core.List.{List}
use Prim.Native.Nat.{ℕ, zero, suc, ◌+◌, ◌-◌, ◌*◌, ◌^◌, ◌<◌}
use native.Mathlib.Nat.{le_of_suc-le-suc, eq-or-lt_of_le}
use native.Mathlib.Omega.{arith}
use lib.Bits.{bit_and, bit_or, or_zero_r}
use lib.Dec.{ltb}
use lib.ListN.{length, get_or, replicate, set, length-set}
use lib.Seq.{ext_get_or, get_or-set_same, get_or-set_other}
use borrow.Author.Tests.{ltb-true, ltb-false}
use Rattle.model.specs.Words.{bit, word, Words}
use Rattle.model.specs.Domains.{row}
use Rattle.model.specs.Solutions.{text_bit}
use Rattle.laws.specs.Inclusion.{Within}
use Rattle.laws.specs.Supported.{Supports}
use Rattle.laws.proofs.DomainLaws.{row_words}
use Rattle.laws.proofs.WordLaws.{sub_within}
use Rattle.laws.proofs.Supports.{or_words, or_words-length, or_words-word, either-support, moved-support}
use Rattle.inplace.specs.InTable.{Apart}
use Rattle.inplace.specs.Written.{Written}
use Rattle.inplace.proofs.Tables.{row_first, row-place}
use Rattle.rev.specs.Turned.{facing, Turning, Turn, Turns, Added, Turned, Mirrored, Common, Widened}
use Rattle.rev.proofs.RevLaws.{faced, faced-first, faced-place, faced-past, faced-filled, faced-empty, mirrored_none, mirrored_next}

-- ---- as the code reads them

pub facing-read : (T : List ℕ) (a b l i : ℕ) → i < l → bit_and (word T (a + i + 1)) (word T (b + l - i)) ≡ facing T a b l i
facing-read T a b l i h =
    let p : a + i + 1 ≡ suc (a + i) = omega arith in
    let q : b + l - i ≡ suc (b + (l - suc i)) = omega arith in
    ap₂ (λ (j k : ℕ). bit_and (word T j) (word T k)) p q

-- the next two words are as they were
pub turn-read : (T : List ℕ) (a b l m : ℕ) (U : List ℕ) (c : Bool) → Written T a (facing T a b l) m U c → m < l → Apart a b l
    → bit_and (word U (a + m + 1)) (word U (b + l - m)) ≡ facing T a b l m
turn-read T a b l m U c t h away = facing-read U a b l m h ∙ ap₂ bit_and (t.kept (suc (a + m)) (λ i k e. omega arith))
    (t.kept (suc (b + (l - suc m))) (λ i k e. away.apart i (l - suc m) (omega arith) (omega arith) (omega arith)))

-- places met before one that allows nothing
pub turn_none : (T : List ℕ) (a b l : ℕ) (U : List ℕ) (m : ℕ) (c : Bool) → m < l → facing T a b l m ≡ 0 → Turning T a b l U m c → Turn T a b l U None
turn_none T a b l U m c h z t = record { all = λ d q. absurd (cc); stop = λ q. (m, h, z, (c, t)) }

range-at : (l i : ℕ) → i < l → get_or (range_with_len 0 l) i 0 ≡ i
range-at l i h = let e : 0 + i ≡ i = omega arith in get_or-range_with_len 0 l i 0 h ∙ e

-- whether all of them allow something, by what `all` ensures
pub turns_by : (T : List ℕ) (a b l : ℕ) (r : Bool)
    → MatchBool r (AllWithin (λ i. bit_and (word T (a + i + 1)) (word T (b + l - i)) ≢ 0) (range_with_len 0 l) 0 (length (range_with_len 0 l)))
    ((k : ℕ) × (k < length (range_with_len 0 l)) × HoldsAt (λ i. bit_and (word T (a + i + 1)) (word T (b + l - i)) ≡ 0) (range_with_len 0 l) k)
    → Turns T a b l r
turns_by T a b l true f = record {
  filled = λ q i h.
      let n : bit_and (word T (a + i + 1)) (word T (b + l - i)) ≢ 0 = subst (λ (j : ℕ). bit_and (word T (a + j + 1)) (word T (b + l - j)) ≢ 0) (range-at l i h)
      (f i 0 (omega arith) (omega (arith, length-range_with_len 0 l))) in
      let d = facing-read T a b l i h in
      omega arith;
  empty = λ q. absurd (cc);
}
turns_by T a b l false f = record {
  filled = λ q. absurd (cc);
  empty = λ q.
      let h : f.0 < l = omega (arith, f.1, length-range_with_len 0 l) in
      (f.0, h, sym (facing-read T a b l f.0 h) ∙ subst (λ (j : ℕ). bit_and (word T (a + j + 1)) (word T (b + l - j)) ≡ 0) (range-at l f.0 h) (f.2 0));
}

-- ---- added to a row

pub added_start : (T : List ℕ) (a b l : ℕ) (r : List ℕ) → length r ≡ 64 → Added T a b l r 0 r
added_start T a b l r n = record { size = n; first = refl; low = λ i h. absurd (omega arith); high = λ i h. refl }

added_step : (T : List ℕ) (a b l : ℕ) (r : List ℕ) (i : ℕ) (s : List ℕ) → i < l → l < 64 → Added T a b l r i s → (w : ℕ)
    → w ≡ bit_or (word s (suc i)) (facing T a b l i)
    → Added T a b l r (suc i) (set s (suc i) w)
added_step T a b l r i s h k t w e =
    let n = t.size in
    record {
      size = length-set s (suc i) w ∙ t.size;
      first = get_or-set_other s (suc i) 0 w 0 (omega arith) ∙ t.first;
      low = λ j g. ⊎_elim
          (λ d. subst (λ (j : ℕ). word (set s (suc i) w) (suc j) ≡ bit_or (word r (suc j)) (facing T a b l j)) (sym d)
          (get_or-set_same s (suc i) w 0 (omega arith) ∙ e ∙ ap (λ (v : ℕ). bit_or v (facing T a b l i)) (t.high i (omega arith))))
          (λ d. get_or-set_other s (suc i) (suc j) w 0 (omega arith) ∙ t.low j d)
          (eq-or-lt_of_le (le_of_suc-le-suc g));
      high = λ j g. get_or-set_other s (suc i) (suc j) w 0 (omega arith) ∙ t.high j (omega arith);
    }

pub added_turn : (T : List ℕ) (a b l : ℕ) (r : List ℕ) (i : ℕ) (s : List ℕ) → i < l → l < 64 → Added T a b l r i s
    → Added T a b l r (i + 1) (set s (i + 1) (bit_or (word s (i + 1)) (bit_and (word T (a + i + 1)) (word T (b + l - i)))))
added_turn T a b l r i s h k t =
    let e : i + 1 ≡ suc i = omega arith in
    let d = facing-read T a b l i h in
    rw (d, e) (added_step T a b l r i s h k t _ refl)

-- ---- what `widen` ensures

module _ (T : List ℕ) (x y l : ℕ) (bd : Words T) (small : l < 64) (in_x : bit (word T (64 * x)) l ≡ true) (in_y : bit (word T (64 * y)) l ≡ true) where
  -- the row of that length
  abbrev M : List ℕ
  M = faced (row T x) (row T y) l

  pub M-place : (i : ℕ) → i < l → facing T (64 * x) (64 * y) l i ≡ word M (suc i)
  M-place i h = sym (faced-place (row T x) (row T y) l small i h ∙ ap₂ bit_and (row-place T x i (omega arith)) (row-place T y (l - suc i) (omega arith)))

  row-x : bit (word (row T x) 0) l ≡ true
  row-x = ap (λ (w : ℕ). bit w l) (row_first T x) ∙ in_x

  row-y : bit (word (row T y) 0) l ≡ true
  row-y = ap (λ (w : ℕ). bit w l) (row_first T y) ∙ in_y

  pub widen_none : (all : Bool) → Turns T (64 * x) (64 * y) l all → all ≡ false → (r : List ℕ) → Widened T x y l r r
  widen_none all t q r =
      let e = t.empty q in
      let never = faced-empty (row T x) (row T y) l small (row_words T bd x) row-x row-y e.0 e.1 (sym (M-place e.0 e.1) ∙ e.2) in
      record {
        wider = λ rest here s. mirrored_next (row T x) (row T y) rest l here r
            (moved-support (Mirrored (row T x) (row T y) rest) (λ u. Mirrored (row T x) (row T y) rest u ⊎ Turned (row T x) (row T y) l u) text_bit text_bit 64 r
            (λ u m. (u, inl m, λ j h. refl)) (λ u ok. (u, ⊎_elim (λ m. m) (λ t. absurd (never u t)) ok, λ j h. refl)) s);
      }

  pub widen-some : (all : Bool) → Turns T (64 * x) (64 * y) l all → all ≡ true → (r p : List ℕ) → Added T (64 * x) (64 * y) l r l p → (single : ℕ)
      → single ≡ 2 ^ l
      → Widened T x y l r (set p 0 (bit_or (word p 0) single))
  widen-some all t q r p a single es =
      let filled : (i : ℕ) → i < l → 0 < word M (suc i) = λ i h. subst (λ (w : ℕ). 0 < w) (M-place i h) (t.filled q i h) in
      let turned = faced-filled (row T x) (row T y) l small (row_words T bd x) row-x row-y filled in
      record {
        wider = λ rest here o. mirrored_next (row T x) (row T y) rest l here (set p 0 (bit_or (word p 0) single))
            (subst (Supports (λ u. Mirrored (row T x) (row T y) rest u ⊎ Turned (row T x) (row T y) l u) text_bit 64) (sym is)
            (either-support (Mirrored (row T x) (row T y) rest) (Turned (row T x) (row T y) l) text_bit 64 r M o turned));
      }
    where
      at : (i : ℕ) (t : Bool) → ltb i l ≡ t → word p (suc i) ≡ bit_or (word r (suc i)) (word M (suc i))
      at i true q = let h = ltb-true i l q in a.low i h ∙ ap (bit_or (word r (suc i))) (M-place i h)
      at i false q =
          let h = ltb-false i l q in
          a.high i h ∙ sym (ap (bit_or (word r (suc i))) (faced-past (row T x) (row T y) l small i h) ∙ or_zero_r (word r (suc i)))

      each : (i : ℕ) → i < 64 → word (set p 0 (bit_or (word p 0) single)) i ≡ word (or_words 64 r M) i
      each zero h = let n = a.size in get_or-set_same p 0 (bit_or (word p 0) single) 0 (omega arith) ∙ ap₂ bit_or a.first
          (es ∙ sym (faced-first (row T x) (row T y) l small))
          ∙ sym (or_words-word 64 r M 0 (omega arith))
      each (suc i) h = get_or-set_other p 0 (suc i) (bit_or (word p 0) single) 0 (omega arith) ∙ at i (ltb i l) refl ∙ sym (or_words-word 64 r M (suc i) h)

      long : length (set p 0 (bit_or (word p 0) single)) ≡ 64
      long = length-set p 0 (bit_or (word p 0) single) ∙ a.size

      is : set p 0 (bit_or (word p 0) single) ≡ or_words 64 r M
      is = ext_get_or 0 (set p 0 (bit_or (word p 0) single)) (or_words 64 r M) (long ∙ sym (or_words-length 64 r M))
          (λ i h. each i (subst (λ (n : ℕ). i < n) long h))

-- ---- the loop of `half` over the lengths

pub half-start : (T : List ℕ) (x y ls : ℕ) → Common T x y ls → Supports (Mirrored (row T x) (row T y) ls) text_bit 64 (replicate 64 0)
half-start T x y ls c = mirrored_none (row T x) (row T y) ls
    (λ n p q. c.all n (ap (λ (w : ℕ). bit w n) (sym (row_first T x)) ∙ p) (ap (λ (w : ℕ). bit w n) (sym (row_first T y)) ∙ q))

pub half-turn : (T : List ℕ) (x y ls rest l single : ℕ) (r s : List ℕ) → bit rest l ≡ true → single ≡ 2 ^ l → Widened T x y l r s → Within rest ls
    → Supports (Mirrored (row T x) (row T y) rest) text_bit 64 r
    → Within (rest - single) ls × Supports (Mirrored (row T x) (row T y) (rest - single)) text_bit 64 s
half-turn T x y ls rest l single r s e es w inside o = rw es (λ b q. inside b (sub_within rest l e b q), w.wider rest e o)
