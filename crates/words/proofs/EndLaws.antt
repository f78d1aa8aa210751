-- The counts of zeros give the ends of a word. Assumes nothing.
use mathlib.Core.Path.{◌≡◌, refl, sym, ◌∙◌}
use mathlib.Core.Logic.{⊎_elim}
use mathlib.Core.Bool.{true, false, ◌&&◌, false≢true}
use Prim.Native.Nat.{ℕ, zero, suc, ◌-◌, ◌*◌, ◌/◌, ◌%◌, ◌^◌, ◌+◌, ◌≤◌, ◌<◌, suc-le-suc}
use native.Mathlib.Nat.{not-suc-le-zero, le_of_suc-le-suc, zero-lt-suc, pow-suc}
use native.Mathlib.Omega.{arith}
use lib.Bits.{bit_and, bit_or}
use borrow.Author.Tests.{ltb-true}
use Rattle.std.proofs.lemmas.Nat.{or_disjoint}
use lib.Pow.{pow_pos}
use lib.Count.{count_leading_zeros, count_trailing_zeros, leading_top, under}
use Rattle.model.specs.Words.{bit}
use Rattle.laws.proofs.ListLaws.{and_true, true_and, never_true}
use Rattle.laws.proofs.WordLaws.{bit-lowest, bit-suc, bit_le, no_bits, or-bit-left, of-or-bit, sub_within, bool_ext, word_ext}
use Rattle.laws.proofs.ShiftLaws.{bit_past, bit_block, bit_mask, bit-and, of-and-bit}
use Rattle.words.specs.Ends.{Highest, Lowest}

half_lt : (a k : ℕ) → a < 2 ^ suc k → a / 2 < 2 ^ k
half_lt a k h = let g : a < 2 ^ k * 2 = rw (pow-suc 2 k) at h in omega arith

pub bit-top : (a j : ℕ) → 2 ^ j ≤ a → a < 2 ^ suc j → bit a j ≡ true
bit-top a j l h =
    let g : a < 2 ^ j * 2 = rw (pow-suc 2 j) at h in
    let e : a ≡ 1 * 2 ^ j + (a - 2 ^ j) = omega arith in
    rw e (bit_block 1 j (a - 2 ^ j) (omega arith))

pub highest_leading : (w : ℕ) → 0 < w → w < 2 ^ 64 → Highest w (63 - count_leading_zeros 64 w)
highest_leading w p h =
    let t = leading_top 64 w p h in
    let e : 63 - count_leading_zeros 64 w ≡ t.0 = omega (arith, t.1) in
    rw e (record {
      small = omega (arith, t.1);
      here = bit-top w t.0 t.2 t.3;
      above = λ i l. bit_past (suc t.0) w i t.3 l;
    })

record Trail (k w t : ℕ) : Type 0 where
  small : t < k
  here : bit w t ≡ true
  below : (i : ℕ) → i < t → bit w i ≡ false

trail : (k w : ℕ) → 0 < w → w < 2 ^ k → Trail k w (count_trailing_zeros k w)
unfolding count_trailing_zeros
trail zero w p h = absurd (omega arith)
trail (suc k) w p h = go (w % 2) refl (λ q. trail k (w / 2) q (half_lt w k h))
  where
    go : (d : ℕ) → w % 2 ≡ d → (0 < w / 2 → Trail k (w / 2) (count_trailing_zeros k (w / 2))) → Trail (suc k) w (under d (count_trailing_zeros k (w / 2)))
    go zero e rest =
        let t = rest (omega arith) in
        let low : bit w 0 ≡ false = bit-lowest w ∙ rw e in
        record {
          small = suc-le-suc t.small;
          here = bit-suc w (count_trailing_zeros k (w / 2)) ∙ t.here;
          below = elim [ zero ↦ λ l. low | suc i ↦ λ l. bit-suc w i ∙ t.below i (le_of_suc-le-suc l) ];
        }
    go (suc zero) e rest = record { small = zero-lt-suc k; here = bit-lowest w ∙ rw e; below = λ i l. absurd (not-suc-le-zero l) }
    go (suc (suc d)) e rest = absurd (omega arith)

pub lowest_trailing : (w : ℕ) → 0 < w → w < 2 ^ 64 → Lowest w (count_trailing_zeros 64 w)
lowest_trailing w p h = let t = trail 64 w p h in record { small = t.small; here = t.here; below = t.below }

-- the lowest bit can be taken off, and then less is left
pub lowest_off : (w a o : ℕ) → Lowest w a → o ≡ 2 ^ a → (o ≤ w) × (w - o < w)
lowest_off w a o low e =
    let p = pow_pos a in
    let l = bit_le w a low.here in
    (omega arith, omega arith)

-- a word and one less have the same bits but for the lowest, and for those below it, which one alone has
pub and_less : (w a : ℕ) → Lowest w a → bit_and w (w - 1) ≡ w - 2 ^ a
and_less w a low = rw split (word_ext (bit_and w (bit_or v m)) v (λ b. bit-and w (bit_or v m) b
    ∙ bool_ext (bit w b && bit (bit_or v m) b) (bit v b)
    (λ y. let t = and_true (bit w b) (bit (bit_or v m) b) y in ⊎_elim (λ z. z) (λ z. absurd (none b t.0 z)) (of-or-bit v m b t.1))
    (λ y. true_and (sub_within w a low.here b y) (or-bit-left v m b y))))
  where
    v : ℕ
    v = w - 2 ^ a

    m : ℕ
    m = 2 ^ a - 1

    none : (b : ℕ) → bit w b ≡ true → bit m b ≡ true → ⊥
    none b y z = false≢true (sym (low.below b (ltb-true b a (sym (bit_mask a b) ∙ z))) ∙ y)

    apart : bit_and v m ≡ 0
    apart = no_bits (bit_and v m) (λ b. never_true (bit (bit_and v m) b) (λ y.
        let t = of-and-bit v m b y in
        none b (sub_within w a low.here b t.0) t.1))

    split : w - 1 ≡ bit_or v m
    split = let p = pow_pos a in let l = bit_le w a low.here in let s = or_disjoint v m apart in omega arith
