-- Duration in place: places keep what a duration may have there, and then lengths go. Assumes nothing.
use Rattle.std.specs.Prelude.{Option, Some, None}
use mathlib.Core.Path.{◌≡◌, refl, sym, ap, subst, ◌∙◌}
use mathlib.Core.Logic.{◌≢◌}
use mathlib.Core.Bool.{Bool, false, ◌||◌, false≢true}
use mathlib.Core.List.{List}
use Prim.Native.Nat.{ℕ, suc, ◌+◌, ◌*◌, ◌≤◌, ◌<◌}
use native.Mathlib.Omega.{arith}
use lib.Bits.{bit_and}
use lib.ListN.{length, replicate}
use Rattle.model.specs.Words.{bit, word, Words}
use Rattle.model.specs.Domains.{row}
use Rattle.model.specs.Solutions.{text_bit}
use Rattle.laws.specs.Supported.{Supports}
use Rattle.laws.proofs.WordLaws.{zero_bit}
use Rattle.laws.proofs.DomainLaws.{row-length, row_words}
use Rattle.laws.proofs.RowLaws.{short-of}
use Rattle.laws.proofs.Supports.{none-support, moved-support}
use Rattle.words.specs.Ends.{Highest}
use Rattle.rows.proofs.OneString.{Passing, one-narrowed}
use Rattle.inplace.specs.declared.Changed.{Changed}
use Rattle.inplace.specs.InTable.{Tidy, Ready, Shortened, Flag}
use Rattle.inplace.specs.Written.{Written}
use Rattle.inplace.proofs.Tables.{row_first, row-place, highest-one, highest-within, only_out}
use Rattle.inplace.proofs.Sides.{Side, side-ended, side-flag}
use Rattle.inplace.proofs.Shapes.{one_left, one_none}
use Rattle.inplace.proofs.Supported.{support-choice, support-tidy}
use Rattle.inplace.proofs.Writing.{written-side}
use Rattle.duration.specs.Durations.{is_duration, DurationStep}
use Rattle.duration.specs.Spelling.{is_spelled, Spells}
use Rattle.duration.specs.Stretches.{places_after, Stretch, Fraction, Lengths, Longest, symbols_at}
use Rattle.duration.proofs.SpellingLaws.{whole-spelled, parted-spelled}
use Rattle.duration.proofs.StretchLaws.{same-stretch, same-fraction}
use Rattle.duration.proofs.DurationLaws.{Found, nothing_left, spelled-supports}

-- the same support, by another test of the same strings
tested : (test : List ℕ → Bool) (most points : ℕ) (r : List ℕ) → Words r → ((w : List ℕ) → length w < 64 → test w ≡ is_spelled most points w) → (v : List ℕ)
    → Supports (Passing (is_spelled most points) r) text_bit 64 v → Supports (Passing test r) text_bit 64 v
tested test most points r bd alike v s = moved-support (Passing (is_spelled most points) r) (Passing test r) text_bit text_bit 64 v
    (λ w m. (w, record { inside = m.inside; meeting = alike w (short-of r bd w m.inside).length-short ∙ m.meeting }, λ i h. refl))
    (λ w m. (w, record { inside = m.inside; meeting = sym (alike w (short-of r bd w m.inside).length-short) ∙ m.meeting }, λ i h. refl))
    s

module _ (T : List ℕ) (x : ℕ) (fits : 64 * x + 64 ≤ length T) (bd : Words T) (tx : Tidy (row T x)) (most points lim whole end ls : ℕ)
    (high : Highest (word T (64 * x)) lim) (digits : Stretch (places_after T (64 * x)) 0 lim whole)
    (fraction : Fraction (places_after T (64 * x)) whole lim points end) (lengths : Lengths (word T (64 * x)) most whole end ls) where
  abbrev r : List ℕ
  r = row T x

  br : Words r
  br = row_words T bd x

  alike : (j : ℕ) → j < lim → places_after T (64 * x) j ≡ word r (suc j)
  alike j h = let k = high.small in sym (row-place T x j (omega arith))

  found : (low : ℕ) → Longest ls whole low → Found r most points lim whole end ls low
  found low l = record {
    longest = subst (λ (w : ℕ). Highest w lim) (sym (row_first T x)) high;
    digits = same-stretch _ _ lim alike 0 whole digits;
    fraction = same-fraction _ _ lim alike whole points end fraction;
    lengths = subst (λ (w : ℕ). Lengths w most whole end ls) (sym (row_first T x)) lengths;
    within = l;
  }

  pub spells_none : ls ≡ 0 → Spells most points T x T None
  spells_none z = record {
    step = λ ds d test vs same alike. one_none ds d x T T refl (λ k o. refl)
        (one-narrowed ds d test vs same r (row-length T x fits) br (replicate 64 0)
        (tested test most points r br alike (replicate 64 0)
        (none-support (Passing (is_spelled most points) r) text_bit 64 (nothing_left r br most points lim whole end ls 0 (found 0 never) z))));
  }
    where
      never : Longest ls whole 0
      never = record {
        small = omega arith;
        here = λ h. absurd (omega arith);
        most = λ b e s. absurd (false≢true (sym (zero_bit b) ∙ ap (λ (w : ℕ). bit w b) (sym z) ∙ e));
      }

  module _ (some : ls ≢ 0) (low : ℕ) (within : Longest ls whole low) (top : ℕ) (longest : Highest ls top) (U : List ℕ) (c : Bool)
      (written : Written T (64 * x) (λ i. bit_and (places_after T (64 * x) i) (symbols_at whole low points i)) top U c) where
    lengths-same : word U (64 * x) ≡ word T (64 * x)
    lengths-same = written.kept (64 * x) (λ i l e. omega arith)

    top_small : top ≤ tx.top
    top_small = highest-within ls (word r 0) top tx.top (λ b e. ap (λ (w : ℕ). bit w b) (row_first T x) ∙ (lengths.sound b e).0) longest tx.longest

    side : Side r (row U x) top (row U x) c
    side = let k = longest.small in written-side T x _ top U c (omega arith) fits (row U x) (λ i h. sym (row-place U x i (omega arith) ∙ written.low i h)) written

    pub spells_ready : Ready U x ls
    spells_ready = record {
      fits = let n = written.size in omega arith;
      some = omega arith;
      within = λ b e. ap (λ (w : ℕ). bit w b) lengths-same ∙ (lengths.sound b e).0;
      ended = side-ended r (row U x) top (row U x) c tx top_small side;
    }

    module _ (W : List ℕ) (p : Bool) (t : Shortened U x ls W p) where
      abbrev v : List ℕ
      v = row W x

      top-same : t.top ≡ top
      top-same = highest-one ls t.top top t.longest longest

      kept : (i : ℕ) → i < top → word v (suc i) ≡ bit_and (word r (suc i)) (symbols_at whole low points i)
      kept i h =
          let k = longest.small in
          let n = top-same in
          t.cut.kept i (omega arith) ∙ row-place U x i (omega arith) ∙ written.low i h
          ∙ ap (λ (w : ℕ). bit_and w (symbols_at whole low points i)) (sym (row-place T x i (omega arith)))

      supports : Supports (Passing (is_spelled most points) r) text_bit 64 v
      supports = let n = top-same in spelled-supports r br most points lim whole end ls low (found low within) top longest v t.cut.size t.cut.first kept
          (λ i h. t.cut.gone i (omega arith))

      tidy : Tidy v
      tidy =
          let f = t.cut.first in
          let k = support-choice (Passing (is_spelled most points) r) (λ w. w) v supports r br (λ w m. m.inside) (omega arith) in
          support-tidy (Passing (is_spelled most points) r) (λ w. w) v supports r br (λ w m. m.inside) k.0 k.1

      flag : Flag r v (c || p)
      flag = let n = top-same in side-flag r (row U x) top (row U x) c tx top_small side ls t.top v (omega arith) t.cut p
          (λ z. ap (λ (L : List ℕ). row L x) (t.same z)) (λ z y. t.less z (sym (row_first U x) ∙ y))

      pub spells_left : (cx : Bool) → cx ≡ (c || p) → Spells most points T x W (Some (record { x = cx; y = false; z = false }))
      spells_left cx e = record {
        step = λ ds d test vs same alike. one_left ds d x T W (t.only.size ∙ written.size)
            (λ k o. let n = longest.small in only_out U x W t.only k o ∙ written.kept k (λ i l e. o (suc i) (omega arith) (omega arith)))
            (one-narrowed ds d test vs same r (row-length T x fits) br v (tested test most points r br alike v supports)) tidy cx (subst (Flag r v) (sym e) flag);
      }

-- ---- the versions

pub whole-step : (v : ℕ) → v < 3 → (T : List ℕ) (x : ℕ) (U : List ℕ) (c : Option Changed) → Spells 20 0 T x U c → DurationStep v T x U c
whole-step v h T x U c s = record { step = λ ds d vs same. s.step ds d (is_duration v) vs same (λ w l. whole-spelled v h w) }

pub parted-step : (v : ℕ) → 3 ≤ v → (T : List ℕ) (x : ℕ) (U : List ℕ) (c : Option Changed) → Spells 63 1024 T x U c → DurationStep v T x U c
parted-step v h T x U c s = record { step = λ ds d vs same. s.step ds d (is_duration v) vs same (parted-spelled v h) }
