-- What the functions of one start, of the starts and of X's row ensure, by what their calls do. Assumes nothing.
use Rattle.std.specs.Prelude.{min}
use mathlib.Core.Path.{◌≡◌, refl, sym, ap, ap₂, subst, ◌∙◌}
use mathlib.Core.Logic.{◌⊎◌, inl, inr, ⊎_elim}
use mathlib.Core.Bool.{Bool, true, false, ◌||◌, false≢true}
use mathlib.Core.List.{List}
use Prim.Native.Nat.{ℕ, zero, suc, ◌+◌, ◌-◌, ◌*◌, ◌/◌, ◌%◌, ◌^◌, ◌≤◌, ◌<◌}
use native.Mathlib.Omega.{arith}
use lib.Bits.{bit_and, bit_or, or_zero_r}
use lib.Dec.{ltb}
use lib.ListN.{length, replicate}
use borrow.Author.Tests.{ltb-true, ltb-false, lt-ltb}
use Rattle.model.specs.Words.{bit, word, Words}
use Rattle.model.specs.Domains.{row}
use Rattle.model.specs.Solutions.{text_bit}
use Rattle.words.specs.Ends.{Highest, Lowest}
use Rattle.rows.specs.Parts.{Cut}
use Rattle.rows.proofs.TrimLaws.{some-bit}
use Rattle.laws.proofs.WordLaws.{zero_bit, bit-suc, pow_self, pow-only, or-bit-left, or-bit-right, of-or-bit, sub_within}
use Rattle.laws.proofs.ShiftLaws.{and-bit, of-and-bit, bit_mask}
use Rattle.laws.proofs.DomainLaws.{row_words}
use Rattle.laws.proofs.Supports.{none-support}
use Rattle.inplace.specs.InTable.{Ready, Shortened, Changed, Flag, both, Meets}
use Rattle.inplace.proofs.Tables.{row_first, row-place, highest-most, highest-one, bit-some}
use Rattle.inplace.proofs.Sides.{Side, side-of, side-ended, side-flag}
use Rattle.sub.specs.Substrings.{Room, Alive, Fitting, Entering, Passing, Entered, Somewhere, Started}
use Rattle.sub.specs.Substrings.{Reaching, Over, Covered, Fixed, Written, Left, Allowed, Wholes, common}
use Rattle.sub.proofs.Turns.{Joined, rest_out, write-next}
use Rattle.sub.proofs.RowsAt.{of-high-bits, in_high-bits, part_row, part-first, part-inside, part-past, part-supports}

-- ---- one start

module _ (T : List ℕ) (bd : Words T) (x y off least most longest : ℕ) (small : off < 63) (room : Room T x y least most longest) (r : List ℕ) where
  -- X is too short
  pub start-past : longest < off + least → Entered (row T x) (row T y) off least longest r r 0
  start-past h = inr (record { dead = λ a. let k = a.far in omega arith; start = refl; same = refl })

  module _ (far : off + least ≤ longest) (lim m : ℕ) (le : lim ≡ min most (longest - off)) (met : Meets T (64 * x + off) (64 * y) lim m) where
    inside : off + lim ≤ longest
    inside = let f = far in omega arith

    common-word : (j : ℕ) → j < lim → both T (64 * x + off) (64 * y) j ≡ common (row T x) (row T y) off j
    common-word j h =
        let s = room.top.small in
        let q = room.high.small in
        let i = inside in
        let e : 64 * x + off + j ≡ 64 * x + (off + j) = omega arith in
        ap₂ bit_and (ap (λ (z : ℕ). word T (suc z)) e ∙ sym (row-place T x (off + j) (omega arith))) (sym (row-place T y j (omega arith)))

    -- a place of the least part allows nothing
    pub start-short : m < least → Entered (row T x) (row T y) off least longest r r 0
    start-short h =
        let f = far in
        let g = highest-most (word (row T y) 0) most least room.high room.low.here in
        let k : least ≤ lim = omega arith in
        inr (record {
          dead = λ a. let z = sym (common-word m (omega arith)) ∙ met.stop (omega arith) in let p = a.filled m h in absurd (omega arith);
          start = refl;
          same = refl;
        })

    module _ (long : least ≤ m) (mask : ℕ) (em : mask ≡ 2 ^ (m + 1) - 1) where
      abbrev ls : ℕ
      ls = bit_and (word T (64 * y)) mask

      is-short : ls ≡ bit_and (word (row T y) 0) (2 ^ (m + 1) - 1)
      is-short = ap₂ bit_and (sym (row_first T y)) em

      pub start-some : 0 < ls
      start-some = bit-some ls least (and-bit (word T (64 * y)) mask least (ap (λ (w : ℕ). bit w least) (sym (row_first T y)) ∙ room.low.here)
          (ap (λ (w : ℕ). bit w least) em ∙ bit_mask (m + 1) least ∙ lt-ltb least (m + 1) (omega arith)))

      pub start-end : (h : ℕ) → Highest ls h → h ≤ m
      start-end h high =
          let t = of-and-bit (word T (64 * y)) mask h high.here in
          let k = ltb-true h (m + 1) (sym (bit_mask (m + 1) h) ∙ ap (λ (w : ℕ). bit w h) (sym em) ∙ t.1) in
          omega arith

      module _ (h : ℕ) (high : Highest ls h) (lr : length r ≡ 64) (s : List ℕ) (added : Joined T (64 * x + off) (64 * y) ls h r s) where
        abbrev part : List ℕ
        part = part_row (row T x) (row T y) off longest most lim m (row_words T bd y) room.high le
            (let f = far in omega arith) met.small
            (λ j l. let k = met.small in subst (λ (w : ℕ). 0 < w) (common-word j (omega arith)) (met.filled j l)) (λ l. sym (common-word m l) ∙ met.stop l)
            ls h is-short high

        pub start_left : Entered (row T x) (row T y) off least longest r s (2 ^ suc off)
        start_left = inl (record {
          alive = record {
            far = far;
            filled = λ j l. let k = met.small in subst (λ (w : ℕ). 0 < w) (common-word j (omega arith)) (met.filled j (omega arith));
          };
          start = refl;
          size = added.size ∙ lr;
          row = part;
          right = part-supports _ _ _ _ _ _ _ _ _ _ _ _ _ _ _ _ _ _;
          joined = elim [
            | zero ↦ λ l. added.first ∙ ap (bit_or (word r 0)) (sym (part-first _ _ _ _ _ _ _ _ _ _ _ _ _ _ _ _ _ _))
            | suc j ↦ λ l. at j (ltb j h) refl
          ];
        })
          where
            at : (j : ℕ) (t : Bool) → ltb j h ≡ t → word s (suc j) ≡ bit_or (word r (suc j)) (word part (suc j))
            at j true q =
                let l = ltb-true j h q in
                let k = start-end h high in
                let g = met.small in
                added.inside j l ∙ ap (bit_or (word r (suc j))) (common-word j (omega arith) ∙ sym (part-inside _ _ _ _ _ _ _ _ _ _ _ _ _ _ _ _ _ _ j l))
            at j false q = let l = ltb-false j h q in added.kept j l
                ∙ sym (ap (bit_or (word r (suc j))) (part-past _ _ _ _ _ _ _ _ _ _ _ _ _ _ _ _ _ _ j l) ∙ or_zero_r (word r (suc j)))

-- ---- the starts

module _ (x y : List ℕ) (n least longest : ℕ) where
  pub starts-begun : (r : List ℕ) → r ≡ replicate 64 0 → Started x y n least longest (n / 2 ^ 1) 0 r
  starts-begun r e = record {
    sound = λ b h. absurd (false≢true (sym (zero_bit b) ∙ h));
    complete = λ off p q a. absurd (false≢true (sym q ∙ sym (bit-suc n off) ∙ p));
    coming = λ off h. bit-suc n off ∙ h;
    parts = rw e (none-support (Somewhere x y longest 0) text_bit 64 (λ w s. false≢true (sym (zero_bit (suc s.0)) ∙ s.1)));
  }

  module _ (rest found : ℕ) (r : List ℕ) (g : Started x y n least longest rest found r) (off : ℕ) (low : Lowest rest off) (s : List ℕ) where
    entering : (u : ℕ) → Entering x y off least longest r s u → Started x y n least longest (rest - 2 ^ off) (bit_or found u) s
    entering u h = record {
      sound = λ b k. ⊎_elim
          (λ q. g.sound b q)
          (λ q. let d = pow-only (suc off) b (ap (λ (w : ℕ). bit w b) (sym h.start) ∙ q) in (ap (bit n) d ∙ g.coming off low.here, (off, d, h.alive)))
          (of-or-bit found u b k);
      complete = λ z p q a. ⊎_elim
          (λ d. or-bit-right found u (suc z) (ap₂ bit h.start (ap suc d) ∙ pow_self (suc off)))
          (λ q. or-bit-left found u (suc z) (g.complete z p q a))
          (rest_out rest off low.here z q);
      coming = λ z k. g.coming z (sub_within rest off low.here z k);
      parts = record {
        count = h.size;
        sound = λ i b l k. ⊎_elim
            (λ q. let t = g.parts.sound i b l q in (t.0, (t.1.0, or-bit-left found u (suc t.1.0) t.1.1, t.1.2), t.2))
            (λ q. let t = h.right.sound i b l q in (
              t.0,
              (
                off,
                or-bit-right found u (suc off)
                    (ap (λ (w : ℕ). bit w (suc off)) h.start ∙ pow_self (suc off)),
                t.1,
              ),
              t.2,
            ))
            (of-or-bit (word r i) (word h.row i) b (ap (λ (w : ℕ). bit w b) (sym (h.joined i l)) ∙ k));
        complete = λ i b l v w k. ap (λ (w : ℕ). bit w b) (h.joined i l) ∙ ⊎_elim
            (λ q. or-bit-left (word r i) (word h.row i) b (g.parts.complete i b l v (w.0, q, w.2) k))
            (λ q. let d = pow-only (suc off) (suc w.0) (ap (λ (z : ℕ). bit z (suc w.0)) (sym h.start) ∙ q) in
            let c : w.0 ≡ off = omega arith in
            or-bit-right (word r i) (word h.row i) b (h.right.complete i b l v (subst (λ (z : ℕ). Fitting x y z longest v) c w.2) k))
            (of-or-bit found u (suc w.0) w.1);
      };
    }

    passing : (u : ℕ) → Passing x y off least longest r s u → Started x y n least longest (rest - 2 ^ off) (bit_or found u) s
    passing u h = rw (h.start, h.same, or_zero_r found) (record {
      sound = g.sound;
      complete = λ z p q a. ⊎_elim (λ d. absurd (h.dead (subst (λ (k : ℕ). Alive x y k least longest) d a))) (λ q. g.complete z p q a)
          (rest_out rest off low.here z q);
      coming = λ z k. g.coming z (sub_within rest off low.here z k);
      parts = g.parts;
    })

    pub starts-turn : (u : ℕ) → Entered x y off least longest r s u → Started x y n least longest (rest - 2 ^ off) (bit_or found u) s
    starts-turn u h = ⊎_elim (entering u) (passing u) h

-- ---- X's places in the part by every start

module _ (T : List ℕ) (x y n from to : ℕ) (h : Covered T x y n from to) (i : ℕ) (U : List ℕ) (c : Bool)
    (g : Written (Fixed (row T x) (row T y) n) T (64 * x) from to i U c) (begun : from ≤ i) (l : i < to) where
  pub fix_reaching : Reaching (length U) (64 * y) n i
  fix_reaching =
      let s = g.size in
      let f = h.fits-y in
      let k = h.small in
      record { near = λ off e. let q = h.near off e in omega arith; inside = omega arith }

  -- what comes to lie there is as it was
  laid_word : (off : ℕ) → word U (suc (64 * y + (i - off))) ≡ word (row T y) (suc (i - off))
  laid_word off =
      let k = h.small in
      g.kept (suc (64 * y + (i - off))) (λ j p q r e. h.apart (omega arith)) ∙ sym (row-place T y (i - off) (omega arith))

  pub fix-word : (v : ℕ) → Over U (64 * y) n i 0 v → Fixed (row T x) (row T y) n i (bit_and (word U (64 * x + i + 1)) v)
  fix-word v o =
      let k = h.small in
      let e : word U (64 * x + i + 1) ≡ word (row T x) (suc i) = write-next _ T (64 * x) from to i U c g begun l ∙ sym (row-place T x i (omega arith)) in
      record {
        sound = λ a q.
            let t = of-and-bit (word U (64 * x + i + 1)) v a q in
            let w = o.sound a t.1 in
            (ap (λ (z : ℕ). bit z a) (sym e) ∙ t.0, (w.0, w.1, ap (λ (z : ℕ). bit z a) (sym (laid_word w.0)) ∙ w.2));
        complete = λ off a p q r. and-bit (word U (64 * x + i + 1)) v a (ap (λ (z : ℕ). bit z a) e ∙ q)
            (o.complete off a p (zero_bit off) (ap (λ (z : ℕ). bit z a) (laid_word off) ∙ r));
      }

-- ---- X's row

changed-wider : (f g : ℕ → ℕ) (m k : ℕ) (c : Bool) → m ≤ k → ((i : ℕ) → m ≤ i → f i ≡ g i) → Changed f g m c → Changed f g k c
changed-wider f g m k c h past t = record {
  same = λ e i l. at e i (ltb i m) refl;
  differ = λ e. let w = t.differ e in let q = w.1 in (w.0, omega arith, w.2);
}
  where
    at : c ≡ false → (i : ℕ) (s : Bool) → ltb i m ≡ s → f i ≡ g i
    at e i true q = t.same e i (ltb-true i m q)
    at e i false q = past i (ltb-false i m q)

module _ (T : List ℕ) (x y n least : ℕ) (h : Left T x y n least) where
  -- the symbols before a start
  pub alive-at : (b : ℕ) → bit n b ≡ true → (1 ≤ b) × Alive (row T x) (row T y) (b - 1) least h.tidy.top
  alive-at b e =
      let t = h.alive b e in
      let d = t.1 in
      let q : t.0 ≡ b - 1 = omega arith in
      (omega arith, subst (λ (k : ℕ). Alive (row T x) (row T y) k least h.tidy.top) q t.2)

  pub end-small : (b : ℕ) → bit n b ≡ true → b - 1 + least < 64
  end-small b e = let k = (alive-at b e).1.far in let s = h.tidy.longest.small in omega arith

module _ (T : List ℕ) (bd : Words T) (x y n least : ℕ) (h : Left T x y n least) (lo hi : ℕ) (low : Lowest n lo) (high : Highest n hi) where
  abbrev top : ℕ
  top = h.tidy.top

  first-alive : Alive (row T x) (row T y) (lo - 1) least h.tidy.top
  first-alive = (alive-at T x y n least h lo low.here).1

  first_in : bit n (suc (lo - 1)) ≡ true
  first_in = let t = (alive-at T x y n least h lo low.here).0 in let e : suc (lo - 1) ≡ lo = omega arith in ap (bit n) e ∙ low.here

  last_in : bit n (suc (hi - 1)) ≡ true
  last_in = let t = (alive-at T x y n least h hi high.here).0 in let e : suc (hi - 1) ≡ hi = omega arith in ap (bit n) e ∙ high.here

  least_off : (off : ℕ) → bit n (suc off) ≡ true → lo - 1 ≤ off
  least_off off e = go (ltb (suc off) lo) refl
    where
      go : (t : Bool) → ltb (suc off) lo ≡ t → lo - 1 ≤ off
      go true q = absurd (false≢true (sym (low.below (suc off) (ltb-true (suc off) lo q)) ∙ e))
      go false q = let k = ltb-false (suc off) lo q in omega arith

  most_off : (off : ℕ) → bit n (suc off) ≡ true → off ≤ hi - 1
  most_off off e = let k = highest-most n hi (suc off) high e in omega arith

  abbrev end : ℕ
  end = lo - 1 + least

  end-top : end ≤ top
  end-top = first-alive.far

  pub wholes_covered : Covered T x y n (hi - 1) (lo - 1 + least)
  wholes_covered = record {
    fits-x = h.fits-x;
    fits-y = h.fits-y;
    apart = h.apart;
    near = most_off;
    small = let k = end-top in let s = h.tidy.longest.small in omega arith;
  }

  module _ (ls : ℕ) (els : ls ≡ word T (64 * x) / 2 ^ (lo - 1 + least) * 2 ^ (lo - 1 + least) % 2 ^ 64) (T₁ : List ℕ) (p : Bool)
      (w : Written (Fixed (row T x) (row T y) n) T (64 * x) (hi - 1) (lo - 1 + least) (lo - 1 + least) T₁ p) where
    ls-is : ls ≡ word (row T x) 0 / 2 ^ end * 2 ^ end % 2 ^ 64
    ls-is = els ∙ ap (λ (v : ℕ). v / 2 ^ end * 2 ^ end % 2 ^ 64) (sym (row_first T x))

    of-ls : (b : ℕ) → bit ls b ≡ true → (end ≤ b) × (bit (word (row T x) 0) b ≡ true)
    of-ls b e = of-high-bits (word (row T x) 0) end b (ap (λ (v : ℕ). bit v b) (sym ls-is) ∙ e)

    in_ls : (b : ℕ) → end ≤ b → bit (word (row T x) 0) b ≡ true → bit ls b ≡ true
    in_ls b l e = ap (λ (v : ℕ). bit v b) ls-is ∙ in_high-bits (word (row T x) 0) end b (row_words T bd x 0 b e) l e

    top-ls : Highest ls h.tidy.top
    top-ls = record {
      small = h.tidy.longest.small;
      here = in_ls top end-top h.tidy.longest.here;
      above = λ i l. go i l (bit ls i) refl;
    }
      where
        go : (i : ℕ) → top < i → (t : Bool) → bit ls i ≡ t → t ≡ false
        go i l true e = absurd (false≢true (sym (h.tidy.longest.above i l) ∙ (of-ls i e).1))
        go i l false e = refl

    side : Side (row T x) (row T₁ x) h.tidy.top (row T₁ x) p
    side =
        let s = h.tidy.longest.small in
        let k = end-top in
        let z = w.size in
        let f = h.fits-x in
        side-of T T₁ (row T₁ x) x top p (omega arith) h.fits-x w.size (w.kept (64 * x) (λ j q r t e. omega arith))
        (λ i l. sym (row-place T₁ x i (omega arith))) (λ i l m. past i (omega arith)) (changed-wider _ _ end top p k past w.flag)
      where
        past : (i : ℕ) → lo - 1 + least ≤ i → word T₁ (suc (64 * x + i)) ≡ word T (suc (64 * x + i))
        past i l = w.kept (suc (64 * x + i)) (λ j q r t e. omega arith)

    pub wholes-ready : Ready T₁ x ls
    wholes-ready =
        let z = w.size in
        let f = h.fits-x in
        record {
          fits = omega arith;
          some = bit-some ls top top-ls.here;
          within = λ b e. ap (λ (v : ℕ). bit v b) (sym (row_first T₁ x) ∙ side.first) ∙ (of-ls b e).1;
          ended = side-ended (row T x) (row T₁ x) top (row T₁ x) p h.tidy (omega arith) side;
        }

    module _ (U : List ℕ) (q : Bool) (sh : Shortened T₁ x ls U q) where
      cut : Cut (row T₁ x) ls h.tidy.top (row U x)
      cut = subst (λ (k : ℕ). Cut (row T₁ x) ls k (row U x)) (highest-one ls sh.top top sh.longest top-ls) sh.cut

      place-word : (j : ℕ) → j < top → word (row U x) (suc j) ≡ word T₁ (suc (64 * x + j))
      place-word j l = let s = h.tidy.longest.small in cut.kept j l ∙ row-place T₁ x j (omega arith)

      fixed : (j : ℕ) → hi - 1 ≤ j → j < lo - 1 + least → Fixed (row T x) (row T y) n j (word (row U x) (suc j))
      fixed j l m = let k = end-top in subst (Fixed (row T x) (row T y) n j) (sym (place-word j (omega arith))) (w.done j l m)

      free : (j : ℕ) → ((j < hi - 1) ⊎ (lo - 1 + least ≤ j)) → word (row U x) (suc j) ≡ word (row T x) (suc j)
      free j o = go (ltb j top) refl
        where
          kept : j < top → word T₁ (suc (64 * x + j)) ≡ word T (suc (64 * x + j))
          kept l = w.kept (suc (64 * x + j)) (λ i q r t e. ⊎_elim (λ a. omega arith) (λ a. omega arith) o)

          go : (t : Bool) → ltb j top ≡ t → word (row U x) (suc j) ≡ word (row T x) (suc j)
          go true q = let l = ltb-true j top q in let s = h.tidy.longest.small in place-word j l ∙ kept l ∙ sym (row-place T x j (omega arith))
          go false q = let l = ltb-false j top q in cut.gone j l ∙ sym (h.tidy.gone j l)

      -- a place lies in the part by every start, or not
      by_place : (P : ℕ → Type 0) → ((j : ℕ) → hi - 1 ≤ j → j < lo - 1 + least → P j) → ((j : ℕ) → ((j < hi - 1) ⊎ (lo - 1 + least ≤ j)) → P j) → (j : ℕ) → P j
      by_place P f g j = at (ltb j (hi - 1)) refl (ltb j end) refl
        where
          at : (s : Bool) → ltb j (hi - 1) ≡ s → (t : Bool) → ltb j end ≡ t → P j
          at true p t q = g j (inl (ltb-true j (hi - 1) p))
          at false p true q = f j (ltb-false j (hi - 1) p) (ltb-true j end q)
          at false p false q = g j (inr (ltb-false j end q))

      sound : (i a : ℕ) → i < 64 → bit (word (row U x) i) a ≡ true → (off : ℕ) × (bit n (suc off) ≡ true) × Allowed (row T x) (row T y) off least i a
      sound zero a l e =
          let t = of-ls a (ap (λ (v : ℕ). bit v a) (sym cut.first) ∙ e) in
          (lo - 1, first_in, record { own = t.1; long = λ z. t.0; part = λ j k z. absurd (omega arith) })
      sound (suc j) a l e = by_place
          (λ j. bit (word (row U x) (suc j)) a ≡ true → (off : ℕ) × (bit n (suc off) ≡ true) × Allowed (row T x) (row T y) off least (suc j) a)
          (λ j b m e. let t = (fixed j b m).sound a e in (
            t.1.0,
            t.1.1,
            record {
              own = t.0;
              long = λ z. absurd (omega arith);
              part = λ i k z. let d : j - t.1.0 ≡ i = omega arith in ap (λ (v : ℕ). bit (word (row T y) (suc v)) a) (sym d) ∙ t.1.2;
            },
          ))
          (λ j o e. let own = ap (λ (v : ℕ). bit v a) (sym (free j o)) ∙ e in ⊎_elim
          (λ k. (hi - 1, last_in, record { own = own; long = λ z. absurd (omega arith); part = λ i g z. absurd (omega arith) }))
          (λ k. (lo - 1, first_in, record { own = own; long = λ z. absurd (omega arith); part = λ i g z. absurd (omega arith) }))
          o)
          j e

      complete : (i a off : ℕ) → i < 64 → bit n (suc off) ≡ true → Allowed (row T x) (row T y) off least i a → bit (word (row U x) i) a ≡ true
      complete zero a off l f t =
          let k = least_off off f in
          let g = t.long refl in
          ap (λ (v : ℕ). bit v a) cut.first ∙ in_ls a (omega arith) t.own
      complete (suc j) a off l f t = by_place (λ j. Allowed (row T x) (row T y) off least (suc j) a → bit (word (row U x) (suc j)) a ≡ true)
          (λ j b m t.
          let k = most_off off f in
          let g = least_off off f in
          (fixed j b m).complete off a f t.own (t.part (j - off) (omega arith) (omega arith)))
          (λ j o t. ap (λ (v : ℕ). bit v a) (free j o) ∙ t.own)
          j t

      filled : (j : ℕ) → j < top → 0 < word (row U x) (suc j)
      filled = by_place (λ j. j < top → 0 < word (row U x) (suc j))
          (λ j b m l.
          let k = most_off (lo - 1) first_in in
          let s = h.tidy.longest.small in
          let d : lo - 1 + (j - (lo - 1)) ≡ j = omega arith in
          let some : 0 < bit_and (word (row T x) (suc j)) (word (row T y) (suc (j - (lo - 1)))) =
          subst (λ (z : ℕ). 0 < bit_and (word (row T x) (suc z)) (word (row T y) (suc (j - (lo - 1))))) d (first-alive.filled (j - (lo - 1)) (omega arith)) in
          let a = some-bit _ (λ b e. row_words T bd x (suc j) b (of-and-bit _ _ b e).0) some in
          let t = of-and-bit (word (row T x) (suc j)) (word (row T y) (suc (j - (lo - 1)))) _ a in
          bit-some _ _ ((fixed j b m).complete (lo - 1) _ first_in t.0 t.1))
          (λ j o l. subst (λ (v : ℕ). 0 < v) (sym (free j o)) (h.tidy.filled j l))

      pub wholes-right : (c : Bool) → c ≡ (p || q) → Wholes T x y n least U c
      wholes-right c e = record {
        only = record {
          size = sh.only.size ∙ w.size;
          before = λ k l. sh.only.before k l ∙ w.kept k (λ j q r t e. omega arith);
          after = λ k l. sh.only.after k l ∙ w.kept k (λ j q r t e. let g = end-top in let s = h.tidy.longest.small in omega arith);
        };
        sound = sound;
        complete = complete;
        tidy = record { top = top; longest = subst (λ (v : ℕ). Highest v top) (sym cut.first) top-ls; filled = filled; gone = cut.gone };
        flag = subst (Flag (row T x) (row U x)) (sym e) (side-flag (row T x) (row T₁ x) top (row T₁ x) p h.tidy (omega arith) side ls top (row U x)
            (omega arith) cut q
            (λ k. ap (λ (L : List ℕ). row L x) (sh.same k)) (λ k d. sh.less k (sym (row_first T₁ x) ∙ d)));
      }
