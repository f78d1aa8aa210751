-- What is left of a tidy row without the one string of another tidy row. Assumes nothing.
use mathlib.Core.Path.{◌≡◌, refl, sym, ap, ap₂, subst, ◌∙◌}
use mathlib.Core.Logic.{◌≢◌}
use mathlib.Core.Bool.{Bool, true, false, not, false≢true}
use mathlib.Core.List.{List}
use Prim.Native.Nat.{ℕ, zero, suc, ◌-◌, ◌^◌, ◌<◌}
use native.Mathlib.Omega.{arith}
use lib.Bits.{bit_and}
use lib.Dec.{eqb}
use lib.ListN.{length, get_or, set, length-set}
use lib.Seq.{ext_get_or, get_or-set_same, get_or-set_other}
use borrow.Author.Tests.{eqb-true, eqb-false, not-true}
use Rattle.model.specs.Lists.{any}
use Rattle.model.specs.Words.{bit, several, word, Words}
use Rattle.model.specs.Constraints.{differ}
use Rattle.model.specs.Solutions.{text_bit}
use Rattle.words.specs.Ends.{Highest}
use Rattle.laws.specs.Supported.{InRow, Supports}
use Rattle.laws.proofs.WordLaws.{zero_bit, no_bits, pow_self, pow-only, within_antisym}
use Rattle.laws.proofs.ShiftLaws.{and-bit, of-and-bit, bit_flip}
use Rattle.laws.proofs.BitsLaws.{single, several_true, several_false, two-bits}
use Rattle.laws.proofs.RowLaws.{length-used, symbol-used, symbol-inside, symbol-pow, used-length, used-symbol, used-within}
use Rattle.laws.proofs.NeqLaws.{differ_true, differ_false, differ_self}
use Rattle.laws.proofs.Supports.{moved-support}
use Rattle.inplace.specs.InTable.{Tidy}
use Rattle.inplace.proofs.Parts.{tidy-supports}
use Rattle.inplace.proofs.Tables.{bit-some, highest-most}
use Rattle.neq.specs.Others.{Against}
use Rattle.neq.proofs.OneStringLaws.{only-string, only-words}

-- ---- the bits of w that v lacks

pub in_lacking : (w v b : ℕ) → v < 2 ^ 64 → b < 64 → bit w b ≡ true → bit v b ≡ false → bit (bit_and w (2 ^ 64 - 1 - v)) b ≡ true
in_lacking w v b s h p q = and-bit w (2 ^ 64 - 1 - v) b p (bit_flip 64 v b s h ∙ ap not q)

pub of-lacking : (w v b : ℕ) → v < 2 ^ 64 → b < 64 → bit (bit_and w (2 ^ 64 - 1 - v)) b ≡ true → (bit w b ≡ true) × (bit v b ≡ false)
of-lacking w v b s h e = let t = of-and-bit w (2 ^ 64 - 1 - v) b e in (t.0, not-true (bit v b) (sym (bit_flip 64 v b s h) ∙ t.1))

module _ (x y : List ℕ) (lx : length x ≡ 64) (ly : length y ≡ 64) (bx : Words x) (bY : Words y) (tx : Tidy x) (ty : Tidy y) (one : any several y ≡ false) where
  -- ---- the one string of y

  own : Supports (InRow y) text_bit 64 y
  own = tidy-supports y ty bY ly

  pub found : (u : List ℕ) × InRow y u × (bit (text_bit u 0) ty.top ≡ true)
  found = own.sound 0 ty.top (omega arith) ty.longest.here

  abbrev pub u : List ℕ
  u = found.0

  pub u-long : length u ≡ ty.top
  u-long = used-length u ty.top found.2

  u-short : length u < 64
  u-short =
      let l = u-long in
      let s = ty.longest.small in
      omega arith

  u-symbol : (p : ℕ) → p < length u → word y (suc p) ≡ 2 ^ get_or u p 0
  u-symbol p h = let s = u-short in only-words y y bY bY own one u found.1 (suc p) (omega arith) ∙ symbol-pow u p h

  against : (w : List ℕ) → InRow x w → w ≢ u → Against x y w
  against w i n = record { in_row = i; other = u; in_other = found.1; apart = differ_true w u n }

  of-against : (w : List ℕ) → Against x y w → w ≢ u
  of-against w a e =
      let q : a.other ≡ u = only-string y y bY bY own one a.other u a.in_other found.1 in
      false≢true (sym (differ_self u) ∙ ap₂ differ (sym e) (sym q) ∙ a.apart)

  -- where the strings of a row are those of x but u
  left-supports : (M : List ℕ) → ((w : List ℕ) → InRow M w → InRow x w × (w ≢ u)) → ((w : List ℕ) → InRow x w → w ≢ u → InRow M w) → (r : List ℕ)
      → Supports (InRow M) text_bit 64 r
      → Supports (Against x y) text_bit 64 r
  left-supports M of back r s = moved-support (InRow M) (Against x y) text_bit text_bit 64 r
      (λ w i. (w, against w (of w i).0 (of w i).1, λ j h. refl)) (λ w a. (w, back w a.in_row (of-against w a), λ j h. refl)) s

  -- where another string uses each bit that u uses, nothing is struck
  stays : (InRow x u → (j b : ℕ) → bit (text_bit u j) b ≡ true → (w : List ℕ) × InRow x w × (w ≢ u) × (bit (text_bit w j) b ≡ true))
      → Supports (Against x y) text_bit 64 x
  stays h = record {
    count = lx;
    sound = λ i b k e. let t = (tidy-supports x tx bx lx).sound i b k e in go t.0 t.1 i b t.2 (differ t.0 u) refl;
    complete = λ i b k w a e. used-within x w a.in_row i b e;
  }
    where
      go : (w : List ℕ) → InRow x w → (i b : ℕ) → bit (text_bit w i) b ≡ true → (t : Bool) → differ w u ≡ t
          → (v : List ℕ) × Against x y v × (bit (text_bit v i) b ≡ true)
      go w k i b e true q = (w, against w k (λ d. false≢true (sym (differ_self u) ∙ ap (λ (v : List ℕ). differ v u) (sym d) ∙ q)), e)
      go w k i b e false q =
          let d = differ_false w u q in
          let t = h (subst (InRow x) d k) i b (subst (λ (v : List ℕ). bit (text_bit v i) b ≡ true) d e) in
          (t.0, against t.0 t.1 t.2, t.3)

  -- ---- u is not a string of x

  pub no_length : bit (word x 0) ty.top ≡ false → Supports (Against x y) text_bit 64 x
  no_length e = stays (λ i. absurd (false≢true (sym e ∙ subst (λ (n : ℕ). bit (word x 0) n ≡ true) u-long i.length-bit)))

  pub no_symbol : (p : ℕ) → p < length u → bit_and (word x (suc p)) (word y (suc p)) ≡ 0 → Supports (Against x y) text_bit 64 x
  no_symbol p h e = stays (λ i. absurd (false≢true (sym (zero_bit (get_or u p 0)) ∙ ap (λ (w : ℕ). bit w (get_or u p 0)) (sym e)
      ∙ and-bit (word x (suc p)) (word y (suc p)) (get_or u p 0) (i.symbol-bits p h) (found.1.symbol-bits p h))))

  -- ---- u with another symbol at one place

  with-symbol : (w : List ℕ) (p s : ℕ) → InRow x w → bit (word x (suc p)) s ≡ true → InRow x (set w p s)
  with-symbol w p s i e = record {
    length-bit = subst (λ (n : ℕ). bit (word x 0) n ≡ true) (sym (length-set w p s)) i.length-bit;
    symbol-bits = λ j h. at j (subst (λ (n : ℕ). j < n) (length-set w p s) h) (eqb j p) refl;
  }
    where
      at : (j : ℕ) → j < length w → (t : Bool) → eqb j p ≡ t → bit (word x (suc j)) (get_or (set w p s) j 0) ≡ true
      at j h true q =
          let d = eqb-true j p q in
          let k : p < length w = subst (λ (n : ℕ). n < length w) d h in
          subst (λ (n : ℕ). bit (word x (suc n)) (get_or (set w p s) n 0) ≡ true) (sym d) (ap (λ (a : ℕ). bit (word x (suc p)) a) (get_or-set_same w p s 0 k) ∙ e)
      at j h false q = ap (λ (a : ℕ). bit (word x (suc j)) a) (get_or-set_other w p j s 0 (eqb-false j p q)) ∙ i.symbol-bits j h

  elsewhere : (p s j b : ℕ) → j ≢ suc p → bit (text_bit u j) b ≡ true → bit (text_bit (set u p s) j) b ≡ true
  elsewhere p s zero b n e = subst (λ (m : ℕ). bit (text_bit (set u p s) 0) m ≡ true) (length-set u p s ∙ used-length u b e) (length-used (set u p s))
  elsewhere p s (suc j) b n e =
      let k : j < length (set u p s) = subst (λ (m : ℕ). j < m) (sym (length-set u p s)) (symbol-inside u j b e) in
      subst (λ (a : ℕ). bit (text_bit (set u p s) (suc j)) a ≡ true) (get_or-set_other u p j s 0 (λ d. n (ap suc d)) ∙ used-symbol u j b e)
      (symbol-used (set u p s) j k)

  -- where the rows differ at a place of u, x allows another symbol there
  other-symbol : (p : ℕ) → p < length u → InRow x u → word x (suc p) ≢ word y (suc p) → (s : ℕ) × (bit (word x (suc p)) s ≡ true) × (s ≢ get_or u p 0)
  other-symbol p h i n = go (several (word x (suc p))) refl
    where
      among : (b c : ℕ) → bit (word x (suc p)) b ≡ true → bit (word x (suc p)) c ≡ true → b < c → (t : Bool) → eqb b (get_or u p 0) ≡ t
          → (s : ℕ) × (bit (word x (suc p)) s ≡ true) × (s ≢ get_or u p 0)
      among b c eb ec l true q = let d = eqb-true b (get_or u p 0) q in (c, ec, λ k. omega arith)
      among b c eb ec l false q = (b, eb, eqb-false b (get_or u p 0) q)

      go : (t : Bool) → several (word x (suc p)) ≡ t → (s : ℕ) × (bit (word x (suc p)) s ≡ true) × (s ≢ get_or u p 0)
      go true q =
          let t = two-bits (word x (suc p)) (several_true (word x (suc p)) q) in
          among t.0 t.1 t.2 t.3 t.4 (eqb t.0 (get_or u p 0)) refl
      go false q =
          let has = i.symbol-bits p h in
          let o = u-symbol p h in
          absurd (n (within_antisym (word x (suc p)) (word y (suc p))
          (λ b e.
          let d = single (word x (suc p)) (get_or u p 0) b (several_false (word x (suc p)) q) (bx (suc p) (get_or u p 0) has) (bx (suc p) b e) has e in
          subst (λ (a : ℕ). bit (word y (suc p)) a ≡ true) d (found.1.symbol-bits p h))
          (λ b e. subst (λ (a : ℕ). bit (word x (suc p)) a ≡ true) (sym (pow-only (get_or u p 0) b (ap (λ (w : ℕ). bit w b) (sym o) ∙ e))) has)))

  -- every bit of u that is not its symbol at p stays
  changed-at : (p : ℕ) → p < length u → word x (suc p) ≢ word y (suc p) → InRow x u → (j b : ℕ) → j ≢ suc p → bit (text_bit u j) b ≡ true
      → (w : List ℕ) × InRow x w × (w ≢ u) × (bit (text_bit w j) b ≡ true)
  changed-at p h n i j b d e =
      let s = other-symbol p h i n in (
        set u p s.0,
        with-symbol u p s.0 i s.1,
        λ q. s.2 (sym (get_or-set_same u p s.0 0 h) ∙ ap (λ (v : List ℕ). get_or v p 0) q),
        elsewhere p s.0 j
            b d e,
      )

  -- two places at which x allows another symbol
  pub two-places : (p q : ℕ) → p < length u → q < length u → p ≢ q → word x (suc p) ≢ word y (suc p) → word x (suc q) ≢ word y (suc q)
      → Supports (Against x y) text_bit 64 x
  two-places p q hp hq d np nq = stays (λ i j b e. go i j b e (eqb j (suc p)) refl)
    where
      go : InRow x u → (j b : ℕ) → bit (text_bit u j) b ≡ true → (t : Bool) → eqb j (suc p) ≡ t
          → (w : List ℕ) × InRow x w × (w ≢ u) × (bit (text_bit w j) b ≡ true)
      go i j b e true t = let k = eqb-true j (suc p) t in changed-at q hq nq i j b (λ r. d (omega arith)) e
      go i j b e false t = changed-at p hp np i j b (eqb-false j (suc p) t) e

  -- one such place, which another length reaches too
  pub longer : (p n : ℕ) → p < length u → word x (suc p) ≢ word y (suc p) → bit (word x 0) n ≡ true → p < n → n ≢ length u → Supports (Against x y) text_bit 64 x
  longer p n hp np en l d = stays (λ i j b e. go i j b e (eqb j (suc p)) refl)
    where
      go : InRow x u → (j b : ℕ) → bit (text_bit u j) b ≡ true → (t : Bool) → eqb j (suc p) ≡ t
          → (w : List ℕ) × InRow x w × (w ≢ u) × (bit (text_bit w j) b ≡ true)
      go i j b e true t =
          let k = eqb-true j (suc p) t in
          let e' : bit (text_bit u (suc p)) b ≡ true = subst (λ (m : ℕ). bit (text_bit u m) b ≡ true) k e in
          let f = (tidy-supports x tx bx lx).sound 0 n (omega arith) en in
          let w : List ℕ = set f.0 p (get_or u p 0) in
          let lw : length (set f.0 p (get_or u p 0)) ≡ n = length-set f.0 p (get_or u p 0) ∙ used-length f.0 n f.2 in
          let ln = used-length f.0 n f.2 in
          let s : get_or (set f.0 p (get_or u p 0)) p 0 ≡ b = get_or-set_same f.0 p (get_or u p 0) 0 (omega arith) ∙ used-symbol u p b e' in (
            w,
            with-symbol f.0 p (get_or u p 0) f.1 (i.symbol-bits p hp),
            λ q. d (sym lw ∙ ap length q),
            subst (λ (m : ℕ). bit (text_bit w m) b ≡ true) (sym k) (subst (λ (a : ℕ). bit (text_bit w (suc p)) a ≡ true) s (symbol-used w p (omega arith))),
          )
      go i j b e false t = changed-at p hp np i j b (eqb-false j (suc p) t) e

  -- ---- x allows just u's symbols at the places of u, but perhaps one

  same-symbol : (w : List ℕ) (j : ℕ) → InRow x w → j < length w → j < length u → word x (suc j) ≡ word y (suc j) → get_or w j 0 ≡ get_or u j 0
  same-symbol w j i h k e = pow-only (get_or u j 0) (get_or w j 0) (ap (λ (v : ℕ). bit v (get_or w j 0)) (sym (e ∙ u-symbol j k)) ∙ i.symbol-bits j h)

  -- its length goes
  pub length-gone : ((j : ℕ) → j < length u → word x (suc j) ≡ word y (suc j)) → (M : List ℕ)
      → ((b : ℕ) → bit (word M 0) b ≡ true → (bit (word x 0) b ≡ true) × (b ≢ length u))
      → ((b : ℕ) → bit (word x 0) b ≡ true → b ≢ length u → bit (word M 0) b ≡ true) → ((j : ℕ) → word M (suc j) ≡ word x (suc j))
      → (r : List ℕ) → Supports (InRow M) text_bit 64 r → Supports (Against x y) text_bit 64 r
  length-gone alike M of back places = left-supports M
      (λ w i.
      let t = of (length w) i.length-bit in
      (record { length-bit = t.0; symbol-bits = λ j h. ap (λ (v : ℕ). bit v (get_or w j 0)) (sym (places j)) ∙ i.symbol-bits j h }, λ e. t.1 (ap length e)))
      (λ w i n. record {
        length-bit = back (length w) i.length-bit (λ e. n (ext_get_or 0 w u e (λ j h. same-symbol w j i h (omega arith) (alike j (omega arith)))));
        symbol-bits = λ j h. ap (λ (v : ℕ). bit v (get_or w j 0)) (places j) ∙ i.symbol-bits j h;
      })

  -- its symbol at p goes, where strings of its length alone reach p
  module _ (p : ℕ) (hp : p < length u) (meets : bit_and (word x (suc p)) (word y (suc p)) ≢ 0) (np : word x (suc p) ≢ word y (suc p))
      (length_in : bit (word x 0) (length u) ≡ true)
      (alike : (j : ℕ) → j < length u → j ≢ p → word x (suc j) ≡ word y (suc j)) (reach : (n : ℕ) → bit (word x 0) n ≡ true → p < n → n ≡ length u)
      (v<w : word y (suc p) < 2 ^ 64)
      (M : List ℕ) (lM : length M ≡ 64) (first : word M 0 ≡ word x 0) (here : word M (suc p) ≡ bit_and (word x (suc p)) (2 ^ 64 - 1 - word y (suc p)))
      (else : (j : ℕ) → j ≢ p → word M (suc j) ≡ word x (suc j)) where
    u-here : bit (word x (suc p)) (get_or u p 0) ≡ true
    u-here = go (bit (word x (suc p)) (get_or u p 0)) refl
      where
        go : (t : Bool) → bit (word x (suc p)) (get_or u p 0) ≡ t → t ≡ true
        go true q = refl
        go false q = absurd (meets (no_bits _ (λ b. none b (bit (bit_and (word x (suc p)) (word y (suc p))) b) refl)))
          where
            none : (b : ℕ) (t : Bool) → bit (bit_and (word x (suc p)) (word y (suc p))) b ≡ t → t ≡ false
            none b true e =
                let t = of-and-bit (word x (suc p)) (word y (suc p)) b e in
                absurd (false≢true (sym q ∙ subst (λ (a : ℕ). bit (word x (suc p)) a ≡ true)
                (pow-only (get_or u p 0) b (ap (λ (w : ℕ). bit w b) (sym (u-symbol p hp)) ∙ t.1)) t.0))
            none b false e = refl

    u_in : InRow x u
    u_in = record { length-bit = length_in; symbol-bits = λ j h. at j h (eqb j p) refl }
      where
        at : (j : ℕ) → j < length u → (t : Bool) → eqb j p ≡ t → bit (word x (suc j)) (get_or u j 0) ≡ true
        at j h true q = subst (λ (j : ℕ). bit (word x (suc j)) (get_or u j 0) ≡ true) (sym (eqb-true j p q)) u-here
        at j h false q = ap (λ (w : ℕ). bit w (get_or u j 0)) (alike j h (eqb-false j p q) ∙ u-symbol j h) ∙ pow_self (get_or u j 0)

    M-here : (b : ℕ) → bit (word x (suc p)) b ≡ true → b ≢ get_or u p 0 → bit (word M (suc p)) b ≡ true
    M-here b e n = ap (λ (w : ℕ). bit w b) here ∙ in_lacking (word x (suc p)) (word y (suc p)) b v<w (bx (suc p) b e) e
        (ap (λ (w : ℕ). bit w b) (u-symbol p hp) ∙ go (bit (2 ^ get_or u p 0) b) refl)
      where
        go : (t : Bool) → bit (2 ^ get_or u p 0) b ≡ t → t ≡ false
        go true q = absurd (n (pow-only (get_or u p 0) b q))
        go false q = refl

    M-within : (j b : ℕ) → bit (word M j) b ≡ true → bit (word x j) b ≡ true
    M-within zero b e = ap (λ (w : ℕ). bit w b) (sym first) ∙ e
    M-within (suc j) b e = go (eqb j p) refl
      where
        go : (t : Bool) → eqb j p ≡ t → bit (word x (suc j)) b ≡ true
        go true q = let d = eqb-true j p q in (of-and-bit (word x (suc j)) (2 ^ 64 - 1 - word y (suc p)) b
            (ap (λ (w : ℕ). bit w b) (sym (subst (λ (j : ℕ). word M (suc j) ≡ bit_and (word x (suc j)) (2 ^ 64 - 1 - word y (suc p))) (sym d) here)) ∙ e)).0
        go false q = ap (λ (w : ℕ). bit w b) (sym (else j (eqb-false j p q))) ∙ e

    u-gone : bit (word M (suc p)) (get_or u p 0) ≡ true → ⊥
    u-gone e =
        let t = of-lacking (word x (suc p)) (word y (suc p)) (get_or u p 0) v<w (bx (suc p) (get_or u p 0) u-here)
        (ap (λ (w : ℕ). bit w (get_or u p 0)) (sym here) ∙ e) in
        false≢true (sym t.1 ∙ found.1.symbol-bits p hp)

    pub symbol-struck : M ≢ x
    symbol-struck e = u-gone (subst (λ (r : List ℕ). bit (word r (suc p)) (get_or u p 0) ≡ true) (sym e) u-here)

    pub symbol-tidy : Tidy M
    symbol-tidy =
        let s = other-symbol p hp u_in np in
        let k = highest-most (word x 0) tx.top (length u) tx.longest length_in in
        record {
          top = tx.top;
          longest = subst (λ (w : ℕ). Highest w tx.top) (sym first) tx.longest;
          filled = λ j h. at s.0 (M-here s.0 s.1 s.2) j h (eqb j p) refl;
          gone = λ j h. else j (λ e. omega arith) ∙ tx.gone j h;
        }
      where
        at : (b : ℕ) → bit (word M (suc p)) b ≡ true → (j : ℕ) → j < tx.top → (t : Bool) → eqb j p ≡ t → 0 < word M (suc j)
        at b e j h true q = subst (λ (j : ℕ). 0 < word M (suc j)) (sym (eqb-true j p q)) (bit-some (word M (suc p)) b e)
        at b e j h false q = subst (λ (w : ℕ). 0 < w) (sym (else j (eqb-false j p q))) (tx.filled j h)

    pub symbol-gone : Supports (Against x y) text_bit 64 M
    symbol-gone = left-supports M
        (λ w i. (
          record { length-bit = M-within 0 (length w) i.length-bit; symbol-bits = λ j h. M-within (suc j) (get_or w j 0) (i.symbol-bits j h) },
          λ e.
              u-gone ((subst (InRow M) e i).symbol-bits p hp),
        ))
        (λ w i n. record { length-bit = ap (λ (v : ℕ). bit v (length w)) first ∙ i.length-bit; symbol-bits = λ j h. at w i n j h (eqb j p) refl })
        M (tidy-supports M symbol-tidy (λ j b e. bx j b (M-within j b e)) lM)
      where
        at : (w : List ℕ) → InRow x w → w ≢ u → (j : ℕ) → j < length w → (t : Bool) → eqb j p ≡ t → bit (word M (suc j)) (get_or w j 0) ≡ true
        at w i n j h true q =
            let d = eqb-true j p q in
            let l : length w ≡ length u = reach (length w) i.length-bit (omega arith) in
            subst (λ (j : ℕ). bit (word M (suc j)) (get_or w j 0) ≡ true) (sym d) (M-here (get_or w p 0) (i.symbol-bits p (omega arith))
            (λ e. n (ext_get_or 0 w u l (λ k g. each w i l e k g (eqb k p) refl))))
          where
            each : (w : List ℕ) → InRow x w → length w ≡ length u → get_or w p 0 ≡ get_or u p 0 → (k : ℕ) → k < length w → (t : Bool) → eqb k p ≡ t
                → get_or w k 0 ≡ get_or u k 0
            each w i l e k g true q = subst (λ (k : ℕ). get_or w k 0 ≡ get_or u k 0) (sym (eqb-true k p q)) e
            each w i l e k g false q = same-symbol w k i g (omega arith) (alike k (omega arith) (eqb-false k p q))
        at w i n j h false q = ap (λ (v : ℕ). bit v (get_or w j 0)) (else j (eqb-false j p q)) ∙ i.symbol-bits j h
