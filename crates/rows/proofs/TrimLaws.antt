-- Trimming: a row cut at the first place that allows nothing has the support of the row's own strings. Assumes nothing.
use mathlib.Core.Path.{◌≡◌, refl, sym, ap, subst, ◌∙◌}
use mathlib.Core.Bool.{Bool, true, false, cond, ◌&&◌, false≢true}
use mathlib.Core.List.{List, [], ◌∷◌, map}
use Prim.Native.Nat.{ℕ, zero, suc, ◌+◌, ◌-◌, ◌^◌, ◌≤◌, ◌<◌}
use native.Mathlib.Omega.{arith}
use lib.Dec.{eqb, ltb}
use lib.ListN.{length, get_or, replicate, get_or-eq_default}
use lib.Bits.{bit_and}
use lib.Seq.{take_all}
use borrow.Author.Tests.{lt-ltb, ltb-true, ltb-false, eqb-true, eq-eqb}
use Rattle.model.specs.Lists.{upto}
use Rattle.model.specs.Words.{bit, bits, word, Words}
use Rattle.model.specs.Domains.{row, strings, strings_of}
use Rattle.model.specs.Constraints.{always}
use Rattle.model.specs.Solutions.{text_bit}
use Rattle.words.specs.Ends.{Highest}
use Rattle.rows.specs.Rows.{alone, trimmed}
use Rattle.rows.specs.Parts.{Run, Cut}
use Rattle.rows.proofs.Fill.{tabulated_length, tabulated_word}
use Rattle.laws.specs.Inclusion.{In}
use Rattle.laws.specs.Supported.{InRow, Supports}
use Rattle.laws.proofs.ListLaws.{get_or_in, and_true, true_and}
use Rattle.laws.proofs.WordLaws.{zero_bit, no_bits, of-bits, in_bits}
use Rattle.laws.proofs.ShiftLaws.{bit-and, bit_mask}
use Rattle.laws.proofs.RowLaws.{of-strings, in_strings, short-of, length-used, symbol-used, symbol-inside, used-symbol, used-length, within-used, used-within}
use Rattle.laws.proofs.SupportLaws.{narrowed-length}
use Rattle.laws.proofs.Supports.{one-support, none-support, moved-support, trim-support}

-- ---- the definition of trimming, by support

pub trimmed-length : (r : List ℕ) → length (trimmed r) ≡ length r
unfolding trimmed
trimmed-length r = narrowed-length (alone 1 0 []) (always 0) r

pub whole_row : (r : List ℕ) → length r ≡ 64 → row r 0 ≡ r
unfolding row
whole_row r e = take_all 64 r (omega arith)

-- the strings of a row of 64-bit words are those it allows
pub strings-allowed : (r : List ℕ) → Words r → (w : List ℕ) → In w (strings r) → InRow r w
strings-allowed r bd w m = (of-strings r w m).inside

pub allowed-strings : (r : List ℕ) → Words r → (w : List ℕ) → InRow r w → In w (strings r)
allowed-strings r bd w i = in_strings r w i (short-of r bd w i)

pub trimmed-supports : (r : List ℕ) → length r ≡ 64 → Words r → Supports (InRow r) text_bit 64 (trimmed r)
unfolding trimmed alone
trimmed-supports r e bd =
    let q : row (trimmed r) 0 ≡ trimmed r = whole_row (trimmed r) (trimmed-length r ∙ e) in
    moved-support (λ w. In w (strings_of r 0)) (InRow r) text_bit text_bit 64 (trimmed r)
    (λ w m. (w, strings-allowed r bd w (subst (λ (z : List ℕ). In w (strings z)) (whole_row r e) m), λ i h. refl))
    (λ w i. (w, subst (λ (z : List ℕ). In w (strings z)) (sym (whole_row r e)) (allowed-strings r bd w i), λ j h. refl))
    (subst (Supports (λ w. In w (strings_of r 0)) text_bit 64) q (trim-support (alone 1 0 []) r 0 (omega arith) (omega arith)))

-- a row that supports the strings of another allows each of them
pub supported_in : (y v : List ℕ) → Words y → Supports (InRow y) text_bit 64 v → (w : List ℕ) → InRow y w → InRow v w
supported_in y v bd s w i = within-used v w (λ j h b e. let k = (short-of y bd w i).length-short in s.complete j b (omega arith) w i e)

module _ (r : List ℕ) (ln : length r ≡ 64) (bd : Words r) where
  -- a trimmed row has no bit that the row lacks
  pub trimmed-bit : (i b : ℕ) → bit (word (trimmed r) i) b ≡ true → bit (word r i) b ≡ true
  trimmed-bit i b e = go (ltb i 64) refl
    where
      go : (t : Bool) → ltb i 64 ≡ t → bit (word r i) b ≡ true
      go true q = let u = (trimmed-supports r ln bd).sound i b (ltb-true i 64 q) e in used-within r u.0 u.1 i b u.2
      go false q =
          let h = ltb-false i 64 q in
          let l = trimmed-length r in
          absurd (false≢true (sym (zero_bit b) ∙ ap (λ (a : ℕ). bit a b) (sym (get_or-eq_default (trimmed r) 0 (omega arith))) ∙ e))

-- ---- strings of a row, made from a symbol at each place

-- a bit of a word that has one
pub some-bit : (w : ℕ) → ((b : ℕ) → bit w b ≡ true → b < 64) → 0 < w → bit w (get_or (bits w) 0 0) ≡ true
some-bit w bd h = (of-bits w (get_or_in (bits w) 0 0 (go (bits w) refl))).0
  where
    none-there : bits w ≡ [] → (b : ℕ) → bit w b ≡ false
    none-there e b = at (bit w b) refl
      where
        at : (t : Bool) → bit w b ≡ t → t ≡ false
        at true q = absurd (elim (subst (λ (l : List ℕ). In b l) e (in_bits w b q (bd b q))) [ ])
        at false q = refl

    go : (l : List ℕ) → bits w ≡ l → 0 < length l
    go [] e = let z = no_bits w (none-there e) in absurd (omega arith)
    go (b ∷ l) e = omega arith

-- the string of n symbols with f's, where the row allows the length and each of the symbols
pub made : (r : List ℕ) (n : ℕ) (f : ℕ → ℕ) → bit (word r 0) n ≡ true → ((j : ℕ) → j < n → bit (word r (suc j)) (f j) ≡ true) → InRow r (map f (upto n))
made r n f e h =
    let l : length (map f (upto n)) ≡ n = tabulated_length f n in
    record {
      length-bit = subst (λ (m : ℕ). bit (word r 0) m ≡ true) (sym l) e;
      symbol-bits = λ j k. let k' : j < n = subst (λ (m : ℕ). j < m) l k in subst (λ (a : ℕ). bit (word r (suc j)) a ≡ true) (sym (tabulated_word f n j k')) (h j k');
    }

-- ---- the row cut at the first place that allows nothing

-- the allowed lengths of at most m
abbrev pub short : List ℕ → ℕ → ℕ
short r m = bit_and (word r 0) (2 ^ (m + 1) - 1)

module _ (r : List ℕ) (m : ℕ) (bd : Words r) (ran : Run r m) where
  -- a symbol of place j + 1
  pick : ℕ → ℕ
  pick j = get_or (bits (word r (suc j))) 0 0

  pick_in : (j : ℕ) → j < m → bit (word r (suc j)) (pick j) ≡ true
  unfolding pick
  pick_in j h = some-bit (word r (suc j)) (bd (suc j)) (ran.filled j h)

  short-of-row : (b : ℕ) → bit (short r m) b ≡ true → (bit (word r 0) b ≡ true) × (b ≤ m)
  short-of-row b e =
      let q : (bit (word r 0) b && ltb b (m + 1)) ≡ true = rw (bit-and, bit_mask) at e in
      let t = and_true (bit (word r 0) b) (ltb b (m + 1)) q in
      let k = ltb-true b (m + 1) t.1 in
      (t.0, omega arith)

  -- no string goes past the first place that allows nothing
  in_run : (w : List ℕ) → InRow r w → length w ≤ m
  in_run w i = go (ltb m (length w)) refl
    where
      go : (t : Bool) → ltb m (length w) ≡ t → length w ≤ m
      go true e =
          let l = ltb-true m (length w) e in
          let k = bd 0 (length w) i.length-bit in
          absurd (false≢true (sym (zero_bit (get_or w m 0)) ∙ ap (λ (x : ℕ). bit x (get_or w m 0)) (sym (ran.stop (omega arith))) ∙ i.symbol-bits m l))
      go false e = ltb-false m (length w) e

  in_short : (w : List ℕ) → InRow r w → bit (short r m) (length w) ≡ true
  in_short w i = let k = in_run w i in rw (bit-and, bit_mask) (true_and i.length-bit (lt-ltb (length w) (m + 1) (omega arith)))

  -- where no length stays, the row stands for nothing
  pub trim-none : length r ≡ 64 → short r m ≡ 0 → replicate 64 0 ≡ trimmed r
  trim-none e z = one-support (InRow r) text_bit 64 (replicate 64 0) (trimmed r)
      (none-support (InRow r) text_bit 64 (λ w i. false≢true (sym (zero_bit (length w)) ∙ ap (λ (x : ℕ). bit x (length w)) (sym z) ∙ in_short w i)))
      (trimmed-supports r e bd)

  module _ (top : ℕ) (high : Highest (short r m) top) (t : List ℕ) (c : Cut r (short r m) top t) where
    in_top : (w : List ℕ) → InRow r w → length w ≤ top
    in_top w i = go (ltb top (length w)) refl
      where
        go : (s : Bool) → ltb top (length w) ≡ s → length w ≤ top
        go true e = absurd (false≢true (sym (high.above (length w) (ltb-true top (length w) e)) ∙ in_short w i))
        go false e = ltb-false top (length w) e

    -- a longest string, with symbol b at place j + 1
    with-symbol : ℕ → ℕ → ℕ → ℕ
    with-symbol j b i = cond (eqb i j) b (pick i)

    with-symbol_in : (j b : ℕ) → bit (word r (suc j)) b ≡ true → (i : ℕ) → i < m → bit (word r (suc i)) (with-symbol j b i) ≡ true
    unfolding with-symbol
    with-symbol_in j b e i h = go (eqb i j) refl
      where
        go : (s : Bool) → eqb i j ≡ s → bit (word r (suc i)) (cond s b (pick i)) ≡ true
        go true q = subst (λ (i : ℕ). bit (word r (suc i)) b ≡ true) (sym (eqb-true i j q)) e
        go false q = pick_in i h

    sound-length : (b : ℕ) → bit (short r m) b ≡ true → (w : List ℕ) × InRow r w × (bit (text_bit w 0) b ≡ true)
    sound-length b e =
        let s = short-of-row b e in
        let k = s.1 in
        let w : List ℕ = map pick (upto b) in
        (w, made r b pick s.0 (λ j l. pick_in j (omega arith)), subst (λ (n : ℕ). bit (text_bit w 0) n ≡ true) (tabulated_length pick b) (length-used w))

    sound-symbol : (j b : ℕ) → j < top → bit (word r (suc j)) b ≡ true → (w : List ℕ) × InRow r w × (bit (text_bit w (suc j)) b ≡ true)
    unfolding with-symbol
    sound-symbol j b l e =
        let s = short-of-row top high.here in
        let k = s.1 in
        let w : List ℕ = map (with-symbol j b) (upto top) in
        let lw : j < length w = subst (λ (n : ℕ). j < n) (sym (tabulated_length (with-symbol j b) top)) l in
        let q : get_or w j 0 ≡ b = tabulated_word (with-symbol j b) top j l ∙ rw (eq-eqb j j refl) in
        (w, made r top (with-symbol j b) s.0 (λ i h. with-symbol_in j b e i (omega arith)), subst (λ (a : ℕ). bit (text_bit w (suc j)) a ≡ true) q (symbol-used w j lw))

    cut-supports : Supports (InRow r) text_bit 64 t
    cut-supports = record {
      count = c.size;
      sound = elim [ zero ↦ λ b h e. sound-length b (ap (λ (x : ℕ). bit x b) (sym c.first) ∙ e) | suc j ↦ λ b h e. at j b (ltb j top) refl e ];
      complete = elim [ zero ↦ λ b h w i e. length-stays b w i e | suc j ↦ λ b h w i e. symbol-stays j b w i e ];
    }
      where
        at : (j b : ℕ) (s : Bool) → ltb j top ≡ s → bit (word t (suc j)) b ≡ true → (w : List ℕ) × InRow r w × (bit (text_bit w (suc j)) b ≡ true)
        at j b true q e = let l = ltb-true j top q in sound-symbol j b l (ap (λ (x : ℕ). bit x b) (sym (c.kept j l)) ∙ e)
        at j b false q e = absurd (false≢true (sym (zero_bit b) ∙ ap (λ (x : ℕ). bit x b) (sym (c.gone j (ltb-false j top q))) ∙ e))

        length-stays : (b : ℕ) (w : List ℕ) → InRow r w → bit (text_bit w 0) b ≡ true → bit (word t 0) b ≡ true
        length-stays b w i e = ap (λ (x : ℕ). bit x b) c.first ∙ subst (λ (n : ℕ). bit (short r m) n ≡ true) (used-length w b e) (in_short w i)

        symbol-stays : (j b : ℕ) (w : List ℕ) → InRow r w → bit (text_bit w (suc j)) b ≡ true → bit (word t (suc j)) b ≡ true
        symbol-stays j b w i e =
            let l = symbol-inside w j b e in
            let k = in_top w i in
            ap (λ (x : ℕ). bit x b) (c.kept j (omega arith)) ∙ subst (λ (a : ℕ). bit (word r (suc j)) a ≡ true) (used-symbol w j b e) (i.symbol-bits j l)

    pub trim-right : length r ≡ 64 → t ≡ trimmed r
    trim-right e = one-support (InRow r) text_bit 64 t (trimmed r) cut-supports (trimmed-supports r e bd)
