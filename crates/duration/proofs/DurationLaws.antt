-- Duration by support: the lengths and the symbols that are kept are those that strings of the spelling use. Assumes nothing.
use mathlib.Core.Path.{◌≡◌, refl, sym, ap, subst, ◌∙◌}
use mathlib.Core.Logic.{◌≢◌, ◌⊎◌, inl, inr, ⊎_elim}
use mathlib.Core.Bool.{Bool, true, false, cond, false≢true}
use mathlib.Core.List.{List, map}
use Prim.Native.Nat.{ℕ, zero, suc, ◌+◌, ◌<◌, ◌≤◌}
use native.Mathlib.Omega.{arith}
use lib.Bits.{bit_and}
use lib.Dec.{eqb, ltb}
use lib.ListN.{length, get_or}
use borrow.Author.Tests.{eqb-true, eqb-false, eq-eqb, ltb-true, ltb-false}
use Rattle.model.specs.Lists.{upto}
use Rattle.model.specs.Words.{bit, bits, word, Words}
use Rattle.model.specs.Solutions.{text_bit}
use Rattle.laws.specs.Supported.{Supports}
use Rattle.laws.proofs.WordLaws.{zero_bit}
use Rattle.laws.proofs.ShiftLaws.{and-bit, of-and-bit, Order, less, same, more, order}
use Rattle.laws.proofs.RowLaws.{used-length, used-symbol, symbol-inside}
use Rattle.words.specs.Ends.{Highest}
use Rattle.rows.proofs.Fill.{tabulated_length, tabulated_word}
use Rattle.rows.proofs.TrimLaws.{some-bit, made}
use Rattle.rows.proofs.Windows.{uses-symbol, uses-length}
use Rattle.rows.proofs.OneString.{Passing}
use Rattle.inplace.proofs.Tables.{highest-most}
use Rattle.duration.specs.Spelling.{is_spelled}
use Rattle.duration.specs.Stretches.{Stretch, Fraction, Lengths, Longest, symbols_at}
use Rattle.duration.proofs.SpellingLaws.{digit-bit, bit-digit, Spelled, of-spelled, to-spelled}
use Rattle.duration.proofs.StretchLaws.{of-symbols, digit-stays, point-stays}

-- what was found of a row: its longest length, the whole part, where the digits behind it end, the lengths that are left, and the longest within the whole part
pub record Found (r : List ℕ) (most points lim whole end ls low : ℕ) : Type 0 where
  pub longest : Highest (word r 0) lim
  pub digits : Stretch (λ j. word r (suc j)) 0 lim whole
  pub fraction : Fraction (λ j. word r (suc j)) whole lim points end
  pub lengths : Lengths (word r 0) most whole end ls
  pub within : Longest ls whole low

module _ (r : List ℕ) (bd : Words r) (most points : ℕ) where
  -- ---- a string with its point at index c, or without one where that is past its end; it has symbol b at index i

  -- a symbol of the set that index j allows
  abbrev pick : ℕ → ℕ → ℕ
  pick set j = get_or (bits (bit_and (word r (suc j)) set)) 0 0

  picked : (set j : ℕ) → bit_and (word r (suc j)) set ≢ 0 → (bit (word r (suc j)) (pick set j) ≡ true) × (bit set (pick set j) ≡ true)
  picked set j n =
      let w : ℕ = bit_and (word r (suc j)) set in
      of-and-bit (word r (suc j)) set (pick set j) (some-bit w (λ b e. bd (suc j) b (of-and-bit (word r (suc j)) set b e).0) (omega arith))

  module _ (l c i b : ℕ) (allowed : bit (word r 0) l ≡ true) (some : 1 ≤ l) (short : l ≤ most)
      (digit : (j : ℕ) → j < l → j ≢ c → bit_and (word r (suc j)) 1023 ≢ 0)
      (point : c < l → (1 ≤ c) × (suc c < l) × (c ≢ i → bit_and (word r (suc c)) points ≢ 0))
      (here : i < l → (bit (word r (suc i)) b ≡ true) × (i ≢ c → b < 10) × (i ≡ c → bit points b ≡ true)) where
    abbrev symbol : ℕ → ℕ
    symbol j = cond (eqb j i) b (cond (eqb j c) (pick points j) (pick 1023 j))

    fits : (j : ℕ) → j < l → (bit (word r (suc j)) (symbol j) ≡ true) × (j ≢ c → symbol j < 10) × (j ≡ c → bit points (symbol j) ≡ true)
    fits j h = go (eqb j i) refl (eqb j c) refl
      where
        go : (s : Bool) → eqb j i ≡ s → (t : Bool) → eqb j c ≡ t
            → (bit (word r (suc j)) (cond s b (cond t (pick points j) (pick 1023 j))) ≡ true) × (j ≢ c → cond s b (cond t (pick points j) (pick 1023 j)) < 10)
            × (j ≡ c → bit points (cond s b (cond t (pick points j) (pick 1023 j))) ≡ true)
        go true p t q =
            let e = eqb-true j i p in
            let f = here (omega arith) in
            (subst (λ (k : ℕ). bit (word r (suc k)) b ≡ true) (sym e) f.0, λ n. f.1 (λ z. n (e ∙ z)), λ z. f.2 (sym e ∙ z))
        go false p true q =
            let e = eqb-true j c q in
            let n = eqb-false j i p in
            let g = (point (omega arith)).2 (λ z. n (e ∙ z)) in
            let k = picked points j (subst (λ (k : ℕ). bit_and (word r (suc k)) points ≢ 0) (sym e) g) in
            (k.0, λ n. absurd (n e), λ z. k.1)
        go false p false q =
            let n = eqb-false j c q in
            let k = picked 1023 j (digit j h n) in
            (k.0, λ n. bit-digit (pick 1023 j) k.1, λ z. absurd (n z))

    abbrev string : List ℕ
    string = map symbol (upto l)

    long : length string ≡ l
    long = tabulated_length symbol l

    at : (j : ℕ) → j < l → get_or string j 0 ≡ symbol j
    at j h = tabulated_word symbol l j h

    passes : Passing (is_spelled most points) r string
    passes = record {
      inside = made r l symbol allowed (λ j h. (fits j h).0);
      meeting = to-spelled most points string (record {
        some = let n = long in omega arith;
        short = let n = long in omega arith;
        point = c;
        digit = λ j h n. let m = long in subst (λ (a : ℕ). a < 10) (sym (at j (omega arith))) ((fits j (omega arith)).1 n);
        between = λ h.
            let m = long in
            let t = point (omega arith) in
            let u = t.1 in
            (t.0, omega arith, subst (λ (a : ℕ). bit points a ≡ true) (sym (at c (omega arith))) ((fits c (omega arith)).2 refl));
      });
    }

    pub with-length : (w : List ℕ) × Passing (is_spelled most points) r w × (bit (text_bit w 0) l ≡ true)
    with-length = (string, passes, uses-length string l long)

    pub with-symbol : i < l → (w : List ℕ) × Passing (is_spelled most points) r w × (bit (text_bit w (suc i)) b ≡ true)
    with-symbol h = let m = long in (string, passes, uses-symbol string i b (omega arith) (at i h ∙ rw (eq-eqb i i refl)))

  module _ (lim whole end ls low : ℕ) (f : Found r most points lim whole end ls low) where
    -- ---- what is kept is used

    -- a string of a length that is left may have digits everywhere but behind the whole part, and there a point
    left-digits : (l : ℕ) → bit ls l ≡ true → (j : ℕ) → j < l → j ≢ whole → bit_and (word r (suc j)) 1023 ≢ 0
    left-digits l e j h n = go (order j whole)
      where
        go : Order j whole → bit_and (word r (suc j)) 1023 ≢ 0
        go (less k) = f.digits.filled j (omega arith) k
        go (same q) = absurd (n q)
        go (more k) = let t = (f.lengths.sound l e).3 in (f.fraction.pointed (omega arith)).2.filled j (omega arith) (omega arith)

    left-point : (l : ℕ) → bit ls l ≡ true → whole < l → (1 ≤ whole) × (suc whole < l) × (bit_and (word r (suc whole)) points ≢ 0)
    left-point l e h =
        let t = f.lengths.sound l e in
        let n = t.4 in
        let k = t.3 in
        let p = f.fraction.pointed (omega arith) in
        (p.0, omega arith, p.1)

    length-sound : (l : ℕ) → bit ls l ≡ true → (w : List ℕ) × Passing (is_spelled most points) r w × (bit (text_bit w 0) l ≡ true)
    length-sound l e =
        let t = f.lengths.sound l e in
        with-length l whole l 0 t.0 t.1 t.2 (left-digits l e) (λ h. let p = left-point l e h in (p.0, p.1, λ n. p.2)) (λ h. absurd (omega arith))

    module _ (i b : ℕ) (inside : bit (word r (suc i)) b ≡ true) where
      -- a string of a length that is left has it, where that is no point before the end of the whole part
      usual : (l : ℕ) → bit ls l ≡ true → i < l → (i ≢ whole → b < 10) → (i ≡ whole → bit points b ≡ true)
          → (w : List ℕ) × Passing (is_spelled most points) r w × (bit (text_bit w (suc i)) b ≡ true)
      usual l e h d p =
          let t = f.lengths.sound l e in
          with-symbol l whole i b t.0 t.1 t.2 (left-digits l e) (λ k. let q = left-point l e k in (q.0, q.1, λ n. q.2)) (λ k. (inside, d, p)) h

      -- the longest string within the whole part has the point
      inner : 1 ≤ i → i + 1 < low → bit points b ≡ true → (w : List ℕ) × Passing (is_spelled most points) r w × (bit (text_bit w (suc i)) b ≡ true)
      inner s h p =
          let e = f.within.here (omega arith) in
          let k = f.within.small in
          let t = f.lengths.sound low e in
          with-symbol low i i b t.0 t.1 t.2 (λ j g n. f.digits.filled j (omega arith) (omega arith)) (λ g. (s, omega arith, λ n. absurd (n refl)))
          (λ g. (inside, λ n. absurd (n refl), λ z. p)) (omega arith)

      symbol-sound : (top : ℕ) → bit ls top ≡ true → i < top → bit (symbols_at whole low points i) b ≡ true
          → (w : List ℕ) × Passing (is_spelled most points) r w × (bit (text_bit w (suc i)) b ≡ true)
      symbol-sound top e h q = ⊎_elim
          (λ d. usual top e h (λ n. d) (λ z. absurd (no_digit z d)))
          (λ p. ⊎_elim (λ z. usual top e h (λ n. absurd (n z)) (λ y. p.0)) (λ m. inner m.0 m.1 p.0) p.1)
          (of-symbols whole low points i b q)
        where
          -- behind the whole part there is no digit
          no_digit : i ≡ whole → b < 10 → ⊥
          no_digit z d =
              let k = highest-most (word r 0) lim top f.longest (f.lengths.sound top e).0 in
              let y = f.digits.stop (omega arith) in
              false≢true (sym (zero_bit b) ∙ ap (λ (w : ℕ). bit w b) (sym y)
              ∙ and-bit (word r (suc whole)) 1023 b (subst (λ (j : ℕ). bit (word r (suc j)) b ≡ true) z inside) (digit-bit b d))

    -- ---- what is used is kept

    module _ (w : List ℕ) (m : Passing (is_spelled most points) r w) where
      abbrev spelled : Spelled most points w
      spelled = of-spelled most points w m.meeting

      reaches : length w ≤ lim
      reaches = highest-most (word r 0) lim (length w) f.longest m.inside.length-bit

      -- where no digit can stand, the string has its point
      only-point : (j : ℕ) → j < length w → bit_and (word r (suc j)) 1023 ≡ 0 → j ≡ spelled.point
      only-point j h z = go (eqb j spelled.point) refl
        where
          go : (t : Bool) → eqb j spelled.point ≡ t → j ≡ spelled.point
          go true q = eqb-true j spelled.point q
          go false q = absurd (false≢true (sym (zero_bit (get_or w j 0)) ∙ ap (λ (v : ℕ). bit v (get_or w j 0)) (sym z)
              ∙ and-bit (word r (suc j)) 1023 (get_or w j 0) (m.inside.symbol-bits j h) (digit-bit (get_or w j 0) (spelled.digit j h (eqb-false j spelled.point q)))))

      -- a string beyond the whole part has its point right behind it, and ends before the next place without a digit
      beyond : whole < length w → (whole ≡ spelled.point) × (suc whole < length w) × (length w ≤ end)
      beyond h =
          let k = reaches in
          let z = only-point whole h (f.digits.stop (omega arith)) in
          let t = spelled.between (omega arith) in
          let n : bit_and (word r (suc whole)) points ≢ 0 = λ y. false≢true (sym (zero_bit (get_or w whole 0)) ∙ ap (λ (v : ℕ). bit v (get_or w whole 0)) (sym y)
          ∙ and-bit (word r (suc whole)) points (get_or w whole 0) (m.inside.symbol-bits whole h)
          (subst (λ (j : ℕ). bit points (get_or w j 0) ≡ true) (sym z) t.2)) in
          let a = t.0 in
          let b = t.1 in
          let c = f.fraction.least in
          let g : whole < end = go n z a (eqb end whole) refl in
          (z, omega arith, ends g z (ltb end (length w)) refl)
        where
          go : bit_and (word r (suc whole)) points ≢ 0 → whole ≡ spelled.point → 1 ≤ spelled.point → (t : Bool) → eqb end whole ≡ t → whole < end
          go n z a true q = let k = reaches in absurd (n (f.fraction.pointless (eqb-true end whole q) (omega arith) (omega arith)))
          go n z a false q = let e = eqb-false end whole q in let c = f.fraction.least in omega arith

          ends : whole < end → whole ≡ spelled.point → (t : Bool) → ltb end (length w) ≡ t → length w ≤ end
          ends g z true q =
              let k = reaches in
              let l = ltb-true end (length w) q in
              let p = only-point end l ((f.fraction.pointed g).2.stop (omega arith)) in
              absurd (omega arith)
          ends g z false q = ltb-false end (length w) q

      -- it is left
      length-left : bit ls (length w) ≡ true
      length-left =
          f.lengths.complete (length w) m.inside.length-bit spelled.some spelled.short (go (ltb whole (length w)) refl).0 (go (ltb whole (length w)) refl).1
        where
          go : (t : Bool) → ltb whole (length w) ≡ t → (length w ≤ end) × (length w ≢ suc whole)
          go true q = let t = beyond (ltb-true whole (length w) q) in let u = t.1 in (t.2, λ e. omega arith)
          go false q = let h = ltb-false whole (length w) q in let c = f.fraction.least in (omega arith, λ e. omega arith)

      symbol-left : (i : ℕ) → i < length w → bit (symbols_at whole low points i) (get_or w i 0) ≡ true
      symbol-left i h = go (eqb i spelled.point) refl
        where
          inner-point : (i ≡ spelled.point) → (t : Bool) → ltb whole (length w) ≡ t → (i ≡ whole) ⊎ ((1 ≤ i) × (i + 1 < low))
          inner-point z true q = let t = (beyond (ltb-true whole (length w) q)).0 in inl (omega arith)
          inner-point z false q =
              let l = ltb-false whole (length w) q in
              let u = spelled.between (omega arith) in
              let a = u.0 in
              let b = u.1 in
              let k = f.within.most (length w) length-left l in
              inr (omega arith, omega arith)

          go : (t : Bool) → eqb i spelled.point ≡ t → bit (symbols_at whole low points i) (get_or w i 0) ≡ true
          go false q = digit-stays whole low points i (get_or w i 0) (spelled.digit i h (eqb-false i spelled.point q))
          go true q =
              let z = eqb-true i spelled.point q in
              point-stays whole low points i (get_or w i 0) (subst (λ (j : ℕ). bit points (get_or w j 0) ≡ true) (sym z) (spelled.between (omega arith)).2)
              (inner-point z (ltb whole (length w)) refl)

    -- ---- support

    pub nothing_left : ls ≡ 0 → (w : List ℕ) → Passing (is_spelled most points) r w → ⊥
    nothing_left z w m = false≢true (sym (zero_bit (length w)) ∙ ap (λ (v : ℕ). bit v (length w)) (sym z) ∙ length-left w m)

    module _ (top : ℕ) (high : Highest ls top) (v : List ℕ) (size : length v ≡ 64) (first : word v 0 ≡ ls)
        (kept : (i : ℕ) → i < top → word v (suc i) ≡ bit_and (word r (suc i)) (symbols_at whole low points i)) (gone : (i : ℕ) → top ≤ i → word v (suc i) ≡ 0) where
      place-sound : (i b : ℕ) → bit (word v (suc i)) b ≡ true → (w : List ℕ) × Passing (is_spelled most points) r w × (bit (text_bit w (suc i)) b ≡ true)
      place-sound i b e = go (ltb i top) refl
        where
          go : (t : Bool) → ltb i top ≡ t → (w : List ℕ) × Passing (is_spelled most points) r w × (bit (text_bit w (suc i)) b ≡ true)
          go true q =
              let h = ltb-true i top q in
              let t = of-and-bit (word r (suc i)) (symbols_at whole low points i) b (ap (λ (w : ℕ). bit w b) (sym (kept i h)) ∙ e) in
              symbol-sound i b t.0 top high.here h t.1
          go false q = absurd (false≢true (sym (zero_bit b) ∙ ap (λ (w : ℕ). bit w b) (sym (gone i (ltb-false i top q))) ∙ e))

      place-stays : (i b : ℕ) (w : List ℕ) → Passing (is_spelled most points) r w → bit (text_bit w (suc i)) b ≡ true → bit (word v (suc i)) b ≡ true
      place-stays i b w m e =
          let l = symbol-inside w i b e in
          let t = highest-most ls top (length w) high (length-left w m) in
          subst (λ (a : ℕ). bit (word v (suc i)) a ≡ true) (used-symbol w i b e)
          (ap (λ (u : ℕ). bit u (get_or w i 0)) (kept i (omega arith)) ∙ and-bit (word r (suc i)) (symbols_at whole low points i) (get_or w i 0) (m.inside.symbol-bits i l) (symbol-left w m i l))

      pub spelled-supports : Supports (Passing (is_spelled most points) r) text_bit 64 v
      spelled-supports = record {
        count = size;
        sound = elim [ zero ↦ λ b h e. length-sound b (ap (λ (w : ℕ). bit w b) (sym first) ∙ e) | suc i ↦ λ b h e. place-sound i b e ];
        complete = elim [
          | zero ↦ λ b h w m e. ap (λ (u : ℕ). bit u b) first ∙ subst (λ (n : ℕ). bit ls n ≡ true) (used-length w b e) (length-left w m)
          | suc i ↦ λ b h w m e. place-stays i b w m e
        ];
      }
