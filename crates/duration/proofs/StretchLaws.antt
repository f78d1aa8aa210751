-- Laws of the functions of `duration`: the turns of a stretch, the lengths that a duration may have, and the symbols of an index. Assumes nothing.
use Rattle.std.specs.Prelude.{Option, Some, None, MatchOption}
use Rattle.std.specs.Option.{unwrap_or}
use mathlib.Core.Path.{◌≡◌, refl, sym, ap, ap₂, subst, ◌∙◌}
use mathlib.Core.Logic.{◌≢◌, ◌⊎◌, inl, inr, ⊎_elim}
use mathlib.Core.Bool.{Bool, true, false, cond, not, ◌&&◌, ◌||◌, false≢true}
use mathlib.Core.List.{List, [], ◌∷◌}
use Prim.Native.Nat.{ℕ, suc, ◌+◌, ◌-◌, ◌^◌, ◌<◌, ◌≤◌}
use native.Mathlib.Nat.{eq-or-lt_of_le}
use native.Mathlib.Omega.{arith}
use native.Mathlib.Numerals.{add-one}
use lib.Bits.{bit_and, bit_or}
use lib.Dec.{eqb, ltb}
use lib.Pow.{pow-lt}
use borrow.Author.Tests.{eqb-true, eq-eqb, ne_eqb, ltb-true, lt-ltb}
use Rattle.model.specs.Words.{bit, word}
use Rattle.laws.proofs.ListLaws.{and_true, true_and, or_true, not_true}
use Rattle.laws.proofs.WordLaws.{zero_bit, pow-bit, pow_self, bit_high, of-or-bit, or-bit-left, or-bit-right}
use Rattle.laws.proofs.ShiftLaws.{of-and-bit, without-bit}
use Rattle.words.specs.Ends.{Highest}
use Rattle.inplace.specs.Written.{Written}
use Rattle.inplace.proofs.Tables.{highest-most}
use Rattle.inplace.proofs.Reach.{of-short, in_short}
use Rattle.duration.specs.Stretches.{places_after, Stretch, Fraction, Lengths, Longest, symbols_at}
use Rattle.duration.proofs.SpellingLaws.{digit-bit, bit-digit}

-- ---- a stretch of digits

-- the places from i up to m each allow a digit
abbrev pub Digits : (ℕ → ℕ) → ℕ → ℕ → Type 0
Digits place i m = (j : ℕ) → i ≤ j → j < m → bit_and (place j) 1023 ≢ 0

pub digits-next : (place : ℕ → ℕ) (i m : ℕ) → Digits place i m → bit_and (place m) 1023 ≢ 0 → Digits place i (m + 1)
digits-next place i m f n j l h =
    ⊎_elim (λ (q : j ≡ m). subst (λ (k : ℕ). bit_and (place k) 1023 ≢ 0) (sym q) n) (λ (q : j < m). f j l q) (eq-or-lt_of_le (omega arith))

-- by what `find` ensures
pub stretch_by : (place : ℕ → ℕ) (i lim : ℕ) → i ≤ lim → (r : Option ℕ)
    → MatchOption r ((k : ℕ) → i ≤ k → k < lim → bit_and (place k) 1023 ≢ 0)
    (λ m. (i ≤ m) × (m < lim) × (bit_and (place m) 1023 ≡ 0) × ((k : ℕ) → i ≤ k → k < m → bit_and (place k) 1023 ≢ 0))
    → Stretch place i lim (unwrap_or r lim)
stretch_by place i lim l None f = record { least = l; most = omega arith; filled = f; stop = λ h. absurd (omega arith) }
stretch_by place i lim l (Some m) f = record { least = f.0; most = omega (arith, f.1); filled = f.3; stop = λ h. f.2 }

-- ---- the digits behind a point

module _ (place : ℕ → ℕ) (whole lim points : ℕ) (l : whole ≤ lim) where
  pub fraction-none : bit_and (place whole) points ≡ 0 → Fraction place whole lim points whole
  fraction-none z = record { least = omega arith; most = l; pointed = λ h. absurd (omega arith); pointless = λ e a h. z }

  pub fraction-some : whole ≢ 0 → bit_and (place whole) points ≢ 0 → (m : ℕ) → Stretch place (whole + 1) lim m → Fraction place whole lim points m
  fraction-some n z m s = let k = s.least in record {
    least = omega arith;
    most = s.most;
    pointed = λ h. (omega arith, z, rw add-one at s);
    pointless = λ e a h. absurd (omega arith);
  }

-- ---- the same places, written otherwise

module _ (f g : ℕ → ℕ) (lim : ℕ) (alike : (j : ℕ) → j < lim → f j ≡ g j) where
  pub same-stretch : (i m : ℕ) → Stretch f i lim m → Stretch g i lim m
  same-stretch i m s = let k = s.most in record {
    least = s.least;
    most = s.most;
    filled = λ j l h. subst (λ (w : ℕ). bit_and w 1023 ≢ 0) (alike j (omega arith)) (s.filled j l h);
    stop = λ h. subst (λ (w : ℕ). bit_and w 1023 ≡ 0) (alike m h) (s.stop h);
  }

  pub same-fraction : (whole points m : ℕ) → Fraction f whole lim points m → Fraction g whole lim points m
  same-fraction whole points m s = let k = s.most in record {
    least = s.least;
    most = s.most;
    pointed = λ h. let t = s.pointed h in (t.0, subst (λ (w : ℕ). bit_and w points ≢ 0) (alike whole (omega arith)) t.1, same-stretch (suc whole) m t.2);
    pointless = λ e a h. subst (λ (w : ℕ). bit_and w points ≡ 0) (alike whole h) (s.pointless e a h);
  }

-- ---- the lengths

-- a word without one of its bits
of-without : (w b l : ℕ) → (bit w l ≡ true → l < 64) → b < 64 → bit (bit_and w (2 ^ 64 - 1 - 2 ^ b)) l ≡ true → (bit w l ≡ true) × (l ≢ b)
of-without w b l h s e =
    let t = of-and-bit w (2 ^ 64 - 1 - 2 ^ b) l e in
    let u = and_true (bit w l) (not (bit (2 ^ b) l)) (sym (without-bit w (2 ^ b) l (pow-lt s) (h t.0)) ∙ e) in
    (t.0, λ q. false≢true (sym (not_true _ u.1) ∙ ap (bit (2 ^ b)) q ∙ pow_self b))

in_without : (w b l : ℕ) → l < 64 → b < 64 → bit w l ≡ true → l ≢ b → bit (bit_and w (2 ^ 64 - 1 - 2 ^ b)) l ≡ true
in_without w b l h s e n = without-bit w (2 ^ b) l (pow-lt s) h ∙ true_and e (ap not (pow-bit b l ∙ ne_eqb b l (λ q. n (sym q))))

module _ (allowed most whole end : ℕ) (h : allowed < 2 ^ 64) where
  -- the allowed lengths up to both bounds, and then without 0
  abbrev bounded : ℕ
  bounded = bit_and (bit_and allowed (2 ^ (most + 1) - 1)) (2 ^ (end + 1) - 1)

  abbrev fit : ℕ
  fit = bit_and bounded (2 ^ 64 - 1 - 2 ^ 0)

  of-bounded : (l : ℕ) → bit bounded l ≡ true → (bit allowed l ≡ true) × (l ≤ most) × (l ≤ end)
  of-bounded l e =
      let t = of-short (bit_and allowed (2 ^ (most + 1) - 1) ∷ []) end l e in
      let u = of-short (allowed ∷ []) most l t.0 in
      (u.0, u.1, t.1)

  of-fit : (l : ℕ) → bit fit l ≡ true → (bit allowed l ≡ true) × (1 ≤ l) × (l ≤ most) × (l ≤ end)
  of-fit l e =
      let t = of-without bounded 0 l (λ b. bit_high allowed 64 l h (of-bounded l b).0) (omega arith) e in
      let u = of-bounded l t.0 in
      let n = t.1 in
      (u.0, omega arith, u.1, u.2)

  in_fit : (l : ℕ) → bit allowed l ≡ true → 1 ≤ l → l ≤ most → l ≤ end → bit fit l ≡ true
  in_fit l e s p q =
      in_without bounded 0 l (bit_high allowed 64 l h e) (omega arith)
      (in_short (bit_and allowed (2 ^ (most + 1) - 1) ∷ []) end l (in_short (allowed ∷ []) most l e p) q) (λ z. omega arith)

  fit-whole : whole ≡ end → Lengths allowed most whole end fit
  fit-whole q = record {
    sound = λ l e. let t = of-fit l e in let u = t.3 in (t.0, t.1, t.2, t.3, λ z. omega arith);
    complete = λ l e s p r z. in_fit l e s p r;
  }

  fit-parted : whole < end → end < 64 → Lengths allowed most whole end (bit_and fit (2 ^ 64 - 1 - 2 ^ (whole + 1)))
  fit-parted r g = record {
    sound = λ l e.
        let t = of-without fit (whole + 1) l (λ b. bit_high allowed 64 l h (of-fit l b).0) (omega arith) e in
        let u = of-fit l t.0 in
        let n = t.1 in
        (u.0, u.1, u.2, u.3, λ z. n (omega arith));
    complete = λ l e s p q z. in_without fit (whole + 1) l (bit_high allowed 64 l h e) (omega arith) (in_fit l e s p q) (λ y. z (omega arith));
  }

  module _ (m n : ℕ) (em : m ≡ 2 ^ (most + 1) - 1) (en : n ≡ 2 ^ (end + 1) - 1) where
    -- where there is no point
    pub lengths-whole : whole ≡ end → Lengths allowed most whole end (bit_and (bit_and (bit_and allowed m) n) (2 ^ 64 - 1 - 1))
    lengths-whole q = rw (em, en) (fit-whole q)

    -- where there may be one, not at the end
    pub lengths-parted : whole ≢ end → whole ≤ end → end < 64 → (o : ℕ) → o ≡ 2 ^ (whole + 1)
        → Lengths allowed most whole end (bit_and (bit_and (bit_and (bit_and allowed m) n) (2 ^ 64 - 1 - 1)) (2 ^ 64 - 1 - o))
    lengths-parted q r g o z = rw (em, en, z) (fit-parted (omega arith) g)

-- ---- the greatest length of the whole part

module _ (ls whole m : ℕ) (em : m ≡ 2 ^ (whole + 1) - 1) where
  reached-is : bit_and ls m ≡ bit_and ls (2 ^ (whole + 1) - 1)
  reached-is = ap (bit_and ls) em

  pub longest-none : bit_and ls m ≡ 0 → Longest ls whole 0
  longest-none z = record {
    small = omega arith;
    here = λ h. absurd (omega arith);
    most = λ l e s. absurd (false≢true (sym (zero_bit l) ∙ ap (λ (w : ℕ). bit w l) (sym (sym reached-is ∙ z)) ∙ in_short (ls ∷ []) whole l e s));
  }

  pub longest-some : (r : ℕ) → Highest (bit_and ls m) r → Longest ls whole r
  longest-some r high =
      let t = of-short (ls ∷ []) whole r (ap (λ (w : ℕ). bit w r) (sym reached-is) ∙ high.here) in
      record {
        small = t.1;
        here = λ h. t.0;
        most = λ l e s. highest-most (bit_and ls m) r l high (ap (λ (w : ℕ). bit w l) reached-is ∙ in_short (ls ∷ []) whole l e s);
      }

-- ---- the symbols of an index

module _ (whole low points i : ℕ) where
  -- digits everywhere, and a point behind the whole part or within it
  pub of-symbols : (b : ℕ) → bit (symbols_at whole low points i) b ≡ true
      → (b < 10) ⊎ ((bit points b ≡ true) × ((i ≡ whole) ⊎ ((1 ≤ i) × (i + 1 < low))))
  unfolding symbols_at
  of-symbols b e = go (eqb i whole || (ltb 0 i && ltb (i + 1) low)) refl e
    where
      go : (t : Bool) → (eqb i whole || (ltb 0 i && ltb (i + 1) low)) ≡ t → bit (cond t (bit_or 1023 points) 1023) b ≡ true
          → (b < 10) ⊎ ((bit points b ≡ true) × ((i ≡ whole) ⊎ ((1 ≤ i) × (i + 1 < low))))
      go false q e = inl (bit-digit b e)
      go true q e = ⊎_elim (λ d. inl (bit-digit b d)) (λ p. inr (
        p,
        ⊎_elim (λ d. inl (eqb-true i whole d))
            (λ d. let t = and_true (ltb 0 i) (ltb (i + 1) low) d in inr (ltb-true 0 i t.0, ltb-true (i + 1) low t.1))
            (or_true (eqb i whole) _ q),
      )) (of-or-bit 1023 points b e)

  pub digit-stays : (b : ℕ) → b < 10 → bit (symbols_at whole low points i) b ≡ true
  unfolding symbols_at
  digit-stays b h = go (eqb i whole || (ltb 0 i && ltb (i + 1) low))
    where
      go : (t : Bool) → bit (cond t (bit_or 1023 points) 1023) b ≡ true
      go true = or-bit-left 1023 points b (digit-bit b h)
      go false = digit-bit b h

  pub point-stays : (b : ℕ) → bit points b ≡ true → (i ≡ whole) ⊎ ((1 ≤ i) × (i + 1 < low)) → bit (symbols_at whole low points i) b ≡ true
  unfolding symbols_at
  point-stays b h (inl q) = rw (eq-eqb i whole q) (or-bit-right 1023 points b h)
  point-stays b h (inr q) = rw (lt-ltb 0 i q.0, lt-ltb (i + 1) low q.1) (go (eqb i whole))
    where
      go : (t : Bool) → bit (cond (t || true) (bit_or 1023 points) 1023) b ≡ true
      go true = or-bit-right 1023 points b h
      go false = or-bit-right 1023 points b h

-- ---- the turns of a loop that keeps symbols: the word of the next place is still the one that was lent

pub kept_word : (T : List ℕ) (a : ℕ) (f : ℕ → ℕ) (n : ℕ) (U : List ℕ) (c : Bool) → Written T a f n U c → (m s : ℕ) → m ≡ s
    → bit_and (word U (a + n + 1)) m ≡ bit_and (places_after T a n) s
kept_word T a f n U c t m s e =
    let k : a + n + 1 ≡ suc (a + n) = omega arith in
    ap₂ bit_and (ap (word U) k ∙ t.kept (suc (a + n)) (λ i l z. omega arith)) e
