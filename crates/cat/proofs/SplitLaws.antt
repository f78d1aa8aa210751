-- Cat in a table, for one length p of the first string: the parts of the whole row that are left; and the step in place where that is the only length.
-- Assumes nothing.
use Rattle.std.specs.Prelude.{Option, Some, None}
use mathlib.Core.Path.{◌≡◌, refl, sym, ap, ap₂, subst, ◌∙◌}
use mathlib.Core.Logic.{◌≢◌, ⊎_elim}
use mathlib.Core.Bool.{Bool, true, false, ◌||◌, false≢true}
use mathlib.Core.List.{List, [], ◌∷◌}
use Prim.Native.Nat.{ℕ, suc, ◌+◌, ◌-◌, ◌*◌, ◌/◌, ◌%◌, ◌^◌, ◌≤◌, ◌<◌}
use native.Mathlib.Omega.{arith}
use lib.Bits.{bit_and}
use lib.Dec.{ltb}
use lib.ListN.{length}
use borrow.Author.Tests.{ltb-true, ltb-false}
use Rattle.model.specs.Words.{bit, word, Words}
use Rattle.model.specs.Domains.{row}
use Rattle.model.specs.Constraints.{cat}
use Rattle.words.specs.Ends.{Highest}
use Rattle.rows.specs.Rows.{trimmed}
use Rattle.rows.specs.Parts.{Cut, Window}
use Rattle.rows.proofs.TrimLaws.{short, trimmed-bit}
use Rattle.laws.proofs.DomainLaws.{row-length, row_words, row-past}
use Rattle.laws.proofs.WordLaws.{pow_self, pow-only, zero_bit, no_bits, word_ext}
use Rattle.laws.proofs.ShiftLaws.{of-and-bit, bit-shr, of-shifted, in_shifted}
use Rattle.cat.proofs.CatLaws.{lengths-at, none_supported}
use Rattle.laws.proofs.ListLaws.{or_false, or_true}
use Rattle.inplace.proofs.Reach.{Reach, same_bit, of-short, empty-none, reach-none, reach-right, reach-tidy}
use Rattle.inplace.proofs.Tables.{row_first, row-place, highest-most, highest-one, only-other, only_out, bit-some}
use Rattle.inplace.proofs.Sides.{Side, side-of, changed-moved, side-ended, side_cut, side-flag, side-plain}
use Rattle.inplace.proofs.Shapes.{three-left, three-none}
use Rattle.inplace.specs.InPlace.{InPlace}
use Rattle.inplace.specs.declared.Changed.{Changed as Answer}
use Rattle.cat.proofs.SplitRow.{whole_row, whole-first, whole-begun, whole-ended, whole, whole_words, split-none, split-some, parts-narrowed, moved-short}
use Rattle.inplace.specs.InTable.{Tidy, Out, Ended, Ready, Apart, Changed, both, Meet, Shortened, Flag, zeros, Meets}
use Rattle.cat.specs.Splits.{Three, Split, Supported}
use Rattle.cat.specs.Strings.{Strings}

pub one-allowed : (w p : ℕ) → w ≡ 2 ^ p → bit w p ≡ true
one-allowed w p e = ap (λ (v : ℕ). bit v p) e ∙ pow_self p

module _ (T : List ℕ) (x y z p : ℕ) (s₃ : Strings T x y z) (small : p < 64) (allowed : bit (word T (64 * x)) p ≡ true) (bd : Words T) where
  -- the row of the whole string
  abbrev r : List ℕ
  r = whole_row (row T x) (row T y) (row T z) p

  -- the lengths that are left for the second string
  abbrev cand : ℕ
  cand = bit_and (word T (64 * z) / 2 ^ p) (word T (64 * y))

  -- those of them below a mask, and the lengths of the third string with them
  abbrev ok : ℕ → ℕ
  ok mask = bit_and cand mask

  abbrev okz : ℕ → ℕ
  okz mask = ok mask * 2 ^ p % 2 ^ 64

  r-first : word r 0 ≡ cand * 2 ^ p % 2 ^ 64
  r-first = whole-first (row T x) (row T y) (row T z) p ∙ ap₂ (λ (a b : ℕ). lengths-at a b p) (row_first T y) (row_first T z)

  pub r-begun : (i : ℕ) → i < p → word r (suc i) ≡ both T (64 * z) (64 * x) i
  r-begun i h = whole-begun (row T x) (row T y) (row T z) p small i h ∙ ap₂ bit_and (row-place T z i (omega arith)) (row-place T x i (omega arith))

  pub r-ended : (i : ℕ) → i < 63 - p → word r (suc (p + i)) ≡ both T (64 * z + p) (64 * y) i
  r-ended i h =
      let e : suc (64 * z + (p + i)) ≡ suc (64 * z + p + i) = omega arith in
      whole-ended (row T x) (row T y) (row T z) p i h ∙ ap₂ bit_and (row-place T z (p + i) (omega arith) ∙ ap (word T) e) (row-place T y i (omega arith))

  allowed-x : bit (word (row T x) 0) p ≡ true
  allowed-x = ap (λ (w : ℕ). bit w p) (row_first T x) ∙ allowed

  r-words : Words r
  r-words = whole_words (row T x) (row T y) (row T z) p small (row_words T bd x) (row_words T bd y) (row_words T bd z) allowed-x

  r-length : length r ≡ 64
  r-length = (whole (row T x) (row T y) (row T z) p small).size

  -- a length of the whole string
  of-r : (n : ℕ) → bit (word r 0) n ≡ true → (p ≤ n) × (bit cand (n - p) ≡ true)
  of-r n e = of-shifted cand p n (ap (λ (w : ℕ). bit w n) (sym r-first) ∙ e)

  of-cand : (b : ℕ) → bit cand b ≡ true → (bit (word (row T z) 0) (p + b) ≡ true) × (bit (word (row T y) 0) b ≡ true)
  of-cand b e =
      let t = of-and-bit (word T (64 * z) / 2 ^ p) (word T (64 * y)) b e in
      (ap (λ (w : ℕ). bit w (p + b)) (row_first T z) ∙ sym (bit-shr (word T (64 * z)) p b) ∙ t.0, ap (λ (w : ℕ). bit w b) (row_first T y) ∙ t.1)

  cand-y : (b : ℕ) → bit cand b ≡ true → b ≤ s₃.tidy-y.top
  cand-y b e = highest-most _ _ b s₃.tidy-y.longest (of-cand b e).1

  cand-z : (b : ℕ) → bit cand b ≡ true → p + b ≤ s₃.tidy-z.top
  cand-z b e = highest-most _ _ (p + b) s₃.tidy-z.longest (of-cand b e).0

  -- where the row has no string there is no choice
  none-split : zeros ≡ trimmed r → (v : Three) → Split (row T x) (row T y) (row T z) p v → ⊥
  none-split = split-none (row T x) (row T y) (row T z) p small (row_words T bd x) (row_words T bd y) (row_words T bd z) allowed-x

  no_lengths : cand ≡ 0 → zeros ≡ trimmed r
  no_lengths e = empty-none r r-words r-length (no_bits (word r 0) (λ b. go b (bit (word r 0) b) refl))
    where
      go : (b : ℕ) (t : Bool) → bit (word r 0) b ≡ t → t ≡ false
      go b true q = absurd (false≢true (sym (zero_bit (b - p)) ∙ ap (λ (w : ℕ). bit w (b - p)) (sym e) ∙ (of-r b q).1))
      go b false q = refl

  pub empty-split : cand ≡ 0 → (v : Three) → Split (row T x) (row T y) (row T z) p v → ⊥
  empty-split e = none-split (no_lengths e)

  -- a fact about every place below p + n
  by_place : (C : ℕ → Type 0) (n : ℕ) → ((i : ℕ) → i < p → C i) → ((i : ℕ) → i < n → C (p + i)) → (j : ℕ) → j < p + n → C j
  by_place C n f g j l = go (ltb j p) refl
    where
      go : (t : Bool) → ltb j p ≡ t → C j
      go true q = f j (ltb-true j p q)
      go false q =
          let k = ltb-false j p q in
          let e : p + (j - p) ≡ j = omega arith in
          subst C e (g (j - p) (omega arith))

  -- ---- the first p places meet, and after them m more, of as many as the longest length asks for

  module _ (h : ℕ) (high : Highest cand h) where
    pub fits-h : p + h < 64
    fits-h = let k = cand-z h high.here in let s = s₃.tidy-z.longest.small in omega arith

    module _ (begun : (i : ℕ) → i < p → 0 < both T (64 * z) (64 * x) i) (m : ℕ) (met : Meets T (64 * z + p) (64 * y) h m) where
      small-m : p + m < 64
      small-m = let f = fits-h in let l = met.small in omega arith

      reach : Reach r (p + m)
      reach = record {
        small = small-m;
        filled = by_place (λ j. 0 < word r (suc j)) m (λ i l. subst (λ (w : ℕ). 0 < w) (sym (r-begun i l)) (begun i l))
            (λ i l. let s = small-m in subst (λ (w : ℕ). 0 < w) (sym (r-ended i (omega arith))) (met.filled i l));
        stop = λ n e l.
            let f = fits-h in
            let u = of-r n e in
            let k = u.0 in
            let g = highest-most cand h (n - p) high u.1 in
            r-ended m (omega arith) ∙ met.stop (omega arith);
      }

      module _ (mask : ℕ) (em : mask ≡ 2 ^ (m + 1) - 1) where
        is-short : (okz mask) ≡ short r (p + m)
        is-short = moved-short r cand p m mask r-first em

        ok-cand : (b : ℕ) → bit (ok mask) b ≡ true → bit cand b ≡ true
        ok-cand b e = (of-and-bit cand mask b e).0

        small-y : m ≤ s₃.tidy-y.top
        small-y = let l = met.small in let k = cand-y h high.here in omega arith

        small-z : p + m ≤ s₃.tidy-z.top
        small-z = let l = met.small in let k = cand-z h high.here in omega arith

        none_left : (ok mask) ≡ 0 → zeros ≡ trimmed r
        none_left e = reach-none r (p + m) r-words reach r-length (sym is-short ∙ no_bits (okz mask) (λ b. go b (bit (okz mask) b) refl))
          where
            go : (b : ℕ) (t : Bool) → bit (okz mask) b ≡ t → t ≡ false
            go b true q = absurd (false≢true (sym (zero_bit (b - p)) ∙ ap (λ (w : ℕ). bit w (b - p)) (sym e) ∙ (of-shifted (ok mask) p b q).1))
            go b false q = refl

        pub left_split : (ok mask) ≡ 0 → (v : Three) → Split (row T x) (row T y) (row T z) p v → ⊥
        left_split e = none-split (none_left e)

        -- ---- something is left

        module _ (top : ℕ) (longest : Highest (ok mask) top) where
          top_in : bit cand top ≡ true
          top_in = ok-cand top longest.here

          pub top-z : Highest (okz mask) (p + top)
          top-z =
              let k = cand-z top top_in in
              let s = s₃.tidy-z.longest.small in
              let e : p + top - p ≡ top = omega arith in
              record {
                small = omega arith;
                here = in_shifted (ok mask) p (p + top) (omega arith) (omega arith) (ap (bit (ok mask)) e ∙ longest.here);
                above = λ i l. go i l (bit (okz mask) i) refl;
              }
            where
              go : (i : ℕ) → p + top < i → (t : Bool) → bit (okz mask) i ≡ t → t ≡ false
              go i l true q =
                  let u = of-shifted (ok mask) p i q in
                  let g = u.0 in
                  let k = highest-most (ok mask) top (i - p) longest u.1 in
                  absurd (omega arith)
              go i l false q = refl

          ok-back : (ok mask) ≡ (okz mask) / 2 ^ p
          ok-back = word_ext (ok mask) ((okz mask) / 2 ^ p) (λ b. let d : p + b - p ≡ b = omega arith in same_bit _ _
              (λ e. let k = cand-z b (ok-cand b e) in
              let s = s₃.tidy-z.longest.small in
              bit-shr (okz mask) p b ∙ in_shifted (ok mask) p (p + b) (omega arith) (omega arith) (ap (bit (ok mask)) d ∙ e))
              (λ e. ap (bit (ok mask)) (sym d) ∙ (of-shifted (ok mask) p (p + b) (sym (bit-shr (okz mask) p b) ∙ e)).1))

          high-z : Highest (short r (p + m)) (p + top)
          high-z = subst (λ (w : ℕ). Highest w (p + top)) is-short top-z

          below : p + top ≤ p + m
          below = (of-short r (p + m) (p + top) high-z.here).1

          -- rows that are the parts of the whole row have the support of the choices
          module _ (rx ry rz : List ℕ) (cut-x : Cut r (2 ^ p) p rx) (cut-y : Window r (ok mask) p top ry) (cut-z : Cut r (okz mask) (p + top) rz) where
            cut_short : Cut r (short r (p + m)) (p + top) rz
            cut_short = subst (λ (w : ℕ). Cut r w (p + top) rz) is-short cut-z

            right : rz ≡ trimmed r
            right = reach-right r (p + m) r-words reach r-length (p + top) high-z rz cut_short

            window_y : Window rz (word rz 0 / 2 ^ p) p (63 - p) ry
            window_y = record {
              size = cut-y.size;
              first = cut-y.first ∙ ok-back ∙ ap (λ (w : ℕ). w / 2 ^ p) (sym cut-z.first);
              kept = λ i l. at i (ltb i top) refl;
              gone = λ i l. let s = top-z.small in cut-y.gone i (omega arith);
            }
              where
                at : (i : ℕ) (t : Bool) → ltb i top ≡ t → word ry (suc i) ≡ word rz (suc (p + i))
                at i true q = let l = ltb-true i top q in cut-y.kept i l ∙ sym (cut-z.kept (p + i) (omega arith))
                at i false q = let l = ltb-false i top q in cut-y.gone i l ∙ sym (cut-z.gone (p + i) (omega arith))

            words-z : Words rz
            words-z i b e = r-words i b (trimmed-bit r r-length r-words i b (ap (λ (v : List ℕ). bit (word v i) b) (sym right) ∙ e))

            pub parts_supported : Supported (Split (row T x) (row T y) (row T z) p) rx ry rz
            parts_supported = split-some (row T x) (row T y) (row T z) p small (row_words T bd x) (row_words T bd y) (row_words T bd z) allowed-x rx ry rz
                right words-z
                (subst (λ (w : ℕ). 0 < w) (sym cut-z.first) (bit-some (okz mask) (p + top) top-z.here))
                (record {
                  size = cut-x.size;
                  first = cut-x.first;
                  kept = λ i l. let e : i ≡ 0 + i = omega arith in cut-x.kept i l ∙ sym (cut-z.kept i (omega arith)) ∙ ap (λ (j : ℕ). word rz (suc j)) e;
                  gone = cut-x.gone;
                })
                window_y

            parts-tidy : Tidy rz
            parts-tidy = reach-tidy r (p + m) r-words reach r-length (p + top) high-z rz cut_short

  -- ==== the step where p is the one length of the first string

  module _ (one : word T (64 * x) ≡ 2 ^ p) where
    lx : length (row T x) ≡ 64
    lx = row-length T x s₃.fits-x

    ly : length (row T y) ≡ 64
    ly = row-length T y s₃.fits-y

    lz : length (row T z) ≡ 64
    lz = row-length T z s₃.fits-z

    only_x : word (row T x) 0 ≡ 2 ^ p
    only_x = row_first T x ∙ one

    top-x : s₃.tidy-x.top ≡ p
    top-x = pow-only p s₃.tidy-x.top (ap (λ (w : ℕ). bit w s₃.tidy-x.top) (sym only_x) ∙ s₃.tidy-x.longest.here)

    -- ---- nothing is left

    abbrev Step : List ℕ → Option Answer → Type 0
    Step U c = InPlace [] (cat 0 1 2) (x ∷ y ∷ z ∷ []) [] T U c

    cat-nothing : (U : List ℕ) → length U ≡ length T → ((k : ℕ) → Out x k → Out y k → Out z k → word U k ≡ word T k) → zeros ≡ trimmed r
        → Step U None
    cat-nothing U lU others e = three-none (cat 0 1 2) x y z T U lU others
        (parts-narrowed (row T x) (row T y) (row T z) p small (row_words T bd x) (row_words T bd y) (row_words T bd z) allowed-x lx ly lz only_x zeros zeros
        zeros
        (none_supported (Split (row T x) (row T y) (row T z) p) (none-split e) _ _ _ refl refl refl))

    pub cat-empty : cand ≡ 0 → Step T None
    cat-empty e = cat-nothing T refl (λ k f g h. refl) (no_lengths e)

    -- ---- the first p places

    module _ (T₁ : List ℕ) (m₁ : ℕ) (a₁ b₁ : Bool) (m1 : Meet T (64 * z) (64 * x) p T₁ m₁ a₁ b₁) where
      outside₁ : (k : ℕ) → Out x k → Out z k → word T₁ k ≡ word T k
      outside₁ k f g =
          let s = small in
          let l = m1.small in
          m1.done.kept k (λ i l e. g (suc i) (omega arith) (omega arith)) (λ i l e. f (suc i) (omega arith) (omega arith))

      pub cat-short : m₁ < p → Step T₁ None
      cat-short l =
          let s = small in
          cat-nothing T₁ m1.done.size (λ k f g h. outside₁ k f h)
          (reach-none r m₁ r-words (record {
            small = omega arith;
            filled = λ i h. subst (λ (w : ℕ). 0 < w) (sym (r-begun i (omega arith))) (m1.done.filled i h);
            stop = λ n e h. r-begun m₁ l ∙ m1.stop l;
          }) r-length (no_bits (short r m₁) (λ b. go b (bit (short r m₁) b) refl)))
        where
          go : (b : ℕ) (t : Bool) → bit (short r m₁) b ≡ t → t ≡ false
          go b true q =
              let u = of-short r m₁ b q in
              let h = u.1 in
              let k = (of-r b u.0).0 in
              absurd (omega arith)
          go b false q = refl

      -- ---- the places after them

      module _ (full : p ≤ m₁) where
        all₁ : m₁ ≡ p
        all₁ = let l = m1.small in omega arith

        -- words of z after the first p places, and of y, are as they were
        later-z : (i : ℕ) → p + i < 63 → word T₁ (suc (64 * z + p + i)) ≡ word T (suc (64 * z + p + i))
        later-z i h = let e = all₁ in m1.done.kept (suc (64 * z + p + i)) (λ j l d. omega arith) (λ j l d. s₃.z≢x (omega arith))

        same_y₁ : (i : ℕ) → i < 64 → word T₁ (64 * y + i) ≡ word T (64 * y + i)
        same_y₁ i h = let e = all₁ in let s = small in m1.done.kept (64 * y + i) (λ j l d. s₃.z≢y (omega arith)) (λ j l d. s₃.y≢x (omega arith))

        place_y₁ : (i : ℕ) → i < 63 → word T₁ (suc (64 * y + i)) ≡ word T (suc (64 * y + i))
        place_y₁ i h = let e : 64 * y + suc i ≡ suc (64 * y + i) = omega arith in ap (word T₁) (sym e) ∙ same_y₁ (suc i) (omega arith) ∙ ap (word T) e

        first_z₁ : word T₁ (64 * z) ≡ word T (64 * z)
        first_z₁ = let e = all₁ in let s = small in m1.done.kept (64 * z) (λ j l d. omega arith) (λ j l d. s₃.z≢x (omega arith))

        both₁ : (i : ℕ) → p + i < 63 → both T₁ (64 * z + p) (64 * y) i ≡ both T (64 * z + p) (64 * y) i
        both₁ i h = ap₂ bit_and (later-z i h) (place_y₁ i (omega arith))

        module _ (h : ℕ) (high : Highest cand h) where
          pub cat-apart : (64 * z + p + h < length T₁) × (64 * y + h < length T₁) × Apart (64 * z + p) (64 * y) h
          cat-apart =
              let f = fits-h h high in
              let l = m1.done.size in
              let fy = s₃.fits-y in
              let fz = s₃.fits-z in
              (omega arith, omega arith, record { apart = λ i j u v e. s₃.z≢y (omega arith) })

          module _ (T₂ : List ℕ) (m₂ : ℕ) (a₂ b₂ : Bool) (m2 : Meet T₁ (64 * z + p) (64 * y) h T₂ m₂ a₂ b₂) where
            small₂ : p + m₂ < 64
            small₂ = let f = fits-h h high in let l = m2.small in omega arith

            size₂ : length T₂ ≡ length T
            size₂ = m2.done.size ∙ m1.done.size

            outside₂ : (k : ℕ) → Out x k → Out y k → Out z k → word T₂ k ≡ word T k
            outside₂ k f g o =
                let s = small₂ in
                m2.done.kept k (λ i l e. o (suc (p + i)) (omega arith) (omega arith)) (λ i l e. g (suc i) (omega arith) (omega arith)) ∙ outside₁ k f o

            begun₁ : (i : ℕ) → i < p → 0 < both T (64 * z) (64 * x) i
            begun₁ i l = let e = all₁ in m1.done.filled i (omega arith)

            met₂ : Meets T (64 * z + p) (64 * y) h m₂
            met₂ = let f = fits-h h high in record {
              small = m2.small;
              filled = λ i l. let s = m2.small in subst (λ (w : ℕ). 0 < w) (both₁ i (omega arith)) (m2.done.filled i l);
              stop = λ l. sym (both₁ m₂ (omega arith)) ∙ m2.stop l;
            }

            -- ---- the three rows after both meetings

            same_x₂ : (k : ℕ) → k < 64 → word T₂ (64 * x + k) ≡ word T₁ (64 * x + k)
            same_x₂ k l = let s₂ = small₂ in m2.done.kept (64 * x + k) (λ j u d. s₃.z≢x (omega arith)) (λ j u d. s₃.y≢x (omega arith))

            place_x₂ : (i : ℕ) → i < 63 → word T₂ (suc (64 * x + i)) ≡ word T₁ (suc (64 * x + i))
            place_x₂ i l = let e : 64 * x + suc i ≡ suc (64 * x + i) = omega arith in ap (word T₂) (sym e) ∙ same_x₂ (suc i) (omega arith) ∙ ap (word T₁) e

            side-x : Side (row T x) r p (row T₂ x) b₁
            side-x =
                let s = small in
                let e₁ = all₁ in
                let e : 64 * x + 0 ≡ 64 * x = omega arith in
                side-of T T₂ r x p b₁ (omega arith) s₃.fits-x size₂
                (ap (word T₂) (sym e) ∙ same_x₂ 0 (omega arith) ∙ ap (word T₁) e ∙ m1.done.kept (64 * x) (λ j u d. s₃.z≢x (omega arith))
                (λ j u d. omega arith))
                (λ i l. place_x₂ i (omega arith) ∙ m1.done.second i (omega arith) ∙ sym (r-begun i l))
                (λ i l k. place_x₂ i k ∙ m1.done.kept (suc (64 * x + i)) (λ j u d. s₃.z≢x (omega arith)) (λ j u d. omega arith))
                (changed-moved _ _ _ _ p b₁ (λ i l. place_x₂ i (omega arith)) (λ i l. refl)
                (subst (λ (n : ℕ). Changed (λ i. word T₁ (suc (64 * x + i))) (λ i. word T (suc (64 * x + i))) n b₁) e₁ m1.done.flag-b))

            side-y : Side (row T y) (row T₂ y) m₂ (row T₂ y) b₂
            side-y =
                let s₂ = small₂ in
                let e : 64 * y + 0 ≡ 64 * y = omega arith in
                side-of T T₂ (row T₂ y) y m₂ b₂ (omega arith) s₃.fits-y size₂
                (m2.done.kept (64 * y) (λ j u d. s₃.z≢y (omega arith)) (λ j u d. omega arith) ∙ ap (word T₁) (sym e) ∙ same_y₁ 0 (omega arith)
                ∙ ap (word T) e)
                (λ i l. sym (row-place T₂ y i (omega arith)))
                (λ i l k. m2.done.kept (suc (64 * y + i)) (λ j u d. s₃.z≢y (omega arith)) (λ j u d. omega arith) ∙ place_y₁ i k)
                (changed-moved _ _ _ _ m₂ b₂ (λ i l. refl) (λ i l. sym (place_y₁ i (omega arith))) m2.done.flag-b)

            -- a place of z, below p and from p on
            begun-z : (i : ℕ) → i < p → word (row T₂ z) (suc i) ≡ word T₁ (suc (64 * z + i))
            begun-z i l =
                let s = small in
                let s₂ = small₂ in
                row-place T₂ z i (omega arith) ∙ m2.done.kept (suc (64 * z + i)) (λ j u d. omega arith) (λ j u d. s₃.z≢y (omega arith))

            place-z : (i : ℕ) → p + i < 63 → word (row T₂ z) (suc (p + i)) ≡ word T₂ (suc (64 * z + p + i))
            place-z i l = let e : suc (64 * z + (p + i)) ≡ suc (64 * z + p + i) = omega arith in row-place T₂ z (p + i) l ∙ ap (word T₂) e

            old-z : (i : ℕ) → p + i < 63 → word (row T z) (suc (p + i)) ≡ word T₁ (suc (64 * z + p + i))
            old-z i l = let e : suc (64 * z + (p + i)) ≡ suc (64 * z + p + i) = omega arith in row-place T z (p + i) l ∙ ap (word T) e ∙ sym (later-z i l)

            side-z : Side (row T z) r (p + m₂) (row T₂ z) (a₁ || a₂)
            side-z =
                let s = small in
                let s₂ = small₂ in
                let e₁ = all₁ in
                let fz = s₃.fits-z in
                let l₂ = size₂ in
                record {
                  size = row-length T₂ z (omega arith) ∙ sym lz;
                  first = row_first T₂ z ∙ m2.done.kept (64 * z) (λ j u d. omega arith) (λ j u d. s₃.z≢y (omega arith)) ∙ first_z₁ ∙ sym (row_first T z);
                  low = by_place (λ j. word (row T₂ z) (suc j) ≡ word r (suc j)) m₂ (λ i l. begun-z i l ∙ m1.done.first i (omega arith) ∙ sym (r-begun i l))
                      (λ i l. place-z i (omega arith) ∙ m2.done.first i l ∙ both₁ i (omega arith) ∙ sym (r-ended i (omega arith)));
                  high = λ j l. at j l (ltb j 63) refl;
                  flag = record {
                    same = λ q. let t = or_false a₁ a₂ q in
                        by_place (λ j. word (row T₂ z) (suc j) ≡ word (row T z) (suc j)) m₂
                        (λ i l. begun-z i l ∙ m1.done.flag-a.same t.0 i (omega arith) ∙ sym (row-place T z i (omega arith)))
                        (λ i l. place-z i (omega arith) ∙ m2.done.flag-a.same t.1 i l ∙ sym (old-z i (omega arith)));
                    differ = λ q. ⊎_elim
                        (λ d. let w = m1.done.flag-a.differ d in
                        let k = w.1 in
                        (w.0, omega arith, λ c. w.2 (sym (begun-z w.0 (omega arith)) ∙ c ∙ row-place T z w.0 (omega arith))))
                        (λ d. let w = m2.done.flag-a.differ d in
                        let k = w.1 in
                        (p + w.0, omega arith, λ c. w.2 (sym (place-z w.0 (omega arith)) ∙ c ∙ old-z w.0 (omega arith))))
                        (or_true a₁ a₂ q);
                  };
                }
              where
                at : (j : ℕ) → p + m₂ ≤ j → (t : Bool) → ltb j 63 ≡ t → word (row T₂ z) (suc j) ≡ word (row T z) (suc j)
                at j l true q =
                    let k = ltb-true j 63 q in
                    let e₁ = all₁ in
                    let s₂ = small₂ in
                    row-place T₂ z j k ∙ m2.done.kept (suc (64 * z + j)) (λ i u d. omega arith) (λ i u d. s₃.z≢y (omega arith))
                    ∙ m1.done.kept (suc (64 * z + j)) (λ i u d. omega arith) (λ i u d. s₃.z≢x (omega arith)) ∙ sym (row-place T z j k)
                at j l false q = let k = ltb-false j 63 q in row-past T₂ z (suc j) (omega arith) ∙ sym (row-past T z (suc j) (omega arith))

            module _ (mask : ℕ) (em : mask ≡ 2 ^ (m₂ + 1) - 1) where
              small_y₂ : m₂ ≤ s₃.tidy-y.top
              small_y₂ = small-y h high begun₁ m₂ met₂ mask em

              small_z₂ : p + m₂ ≤ s₃.tidy-z.top
              small_z₂ = small-z h high begun₁ m₂ met₂ mask em

              of-ok : (b : ℕ) → bit (ok mask) b ≡ true → (bit (word (row T z) 0) (p + b) ≡ true) × (bit (word (row T y) 0) b ≡ true)
              of-ok b e = of-cand b (of-and-bit cand mask b e).0

              pub cat-none : (ok mask) ≡ 0 → Step T₂ None
              cat-none e = cat-nothing T₂ size₂ outside₂ (none_left h high begun₁ m₂ met₂ mask em e)

              pub cat-ready-y : (ok mask) ≢ 0 → Ready T₂ y (ok mask)
              cat-ready-y some =
                  let l = size₂ in
                  let f = s₃.fits-y in
                  record {
                    fits = omega arith;
                    some = omega arith;
                    within = λ b e. ap (λ (w : ℕ). bit w b) (sym (row_first T₂ y) ∙ side-y.first) ∙ (of-ok b e).1;
                    ended = side-ended (row T y) (row T₂ y) m₂ (row T₂ y) b₂ s₃.tidy-y small_y₂ side-y;
                  }

              module _ (T₃ : List ℕ) (f : Bool) (sy : Shortened T₂ y (ok mask) T₃ f) where
                same-z : row T₃ z ≡ row T₂ z
                same-z = let l = size₂ in let g = s₃.fits-z in only-other T₂ y T₃ sy.only z (omega arith) s₃.z≢y

                high-top : Highest (okz mask) (p + sy.top)
                high-top = top-z h high begun₁ m₂ met₂ mask em sy.top sy.longest

                pub cat-ready-z : Ready T₃ z (okz mask)
                cat-ready-z =
                    let l = size₂ in
                    let k = sy.only.size in
                    let g = s₃.fits-z in
                    record {
                      fits = omega arith;
                      some = bit-some (okz mask) (p + sy.top) high-top.here;
                      within = λ b e.
                          let u = of-shifted (ok mask) p b e in
                          let q = u.0 in
                          let d : p + (b - p) ≡ b = omega arith in
                          ap (λ (w : ℕ). bit w b) (sym (row_first T₃ z) ∙ ap (λ (v : List ℕ). word v 0) same-z ∙ side-z.first)
                          ∙ ap (bit (word (row T z) 0)) (sym d) ∙ (of-ok (b - p) u.1).0;
                      ended = subst Ended (sym same-z) (side-ended (row T z) r (p + m₂) (row T₂ z) (a₁ || a₂) s₃.tidy-z small_z₂ side-z);
                    }

                module _ (U : List ℕ) (g : Bool) (sz : Shortened T₃ z (okz mask) U g) where
                  size₃ : length U ≡ length T
                  size₃ = sz.only.size ∙ sy.only.size ∙ size₂

                  same-x : row U x ≡ row T₂ x
                  same-x =
                      let l = size₂ in
                      let k = sy.only.size in
                      let q = s₃.fits-x in
                      only-other T₃ z U sz.only x (omega arith) (λ d. s₃.z≢x (sym d)) ∙ only-other T₂ y T₃ sy.only x (omega arith) (λ d. s₃.y≢x (sym d))

                  same-y : row U y ≡ row T₃ y
                  same-y =
                      let l = size₂ in
                      let k = sy.only.size in
                      let q = s₃.fits-y in
                      only-other T₃ z U sz.only y (omega arith) (λ d. s₃.z≢y (sym d))

                  cut-y : Cut (row T₂ y) (ok mask) sy.top (row U y)
                  cut-y = subst (λ (v : List ℕ). Cut (row T₂ y) (ok mask) sy.top v) (sym same-y) sy.cut

                  cut_z₁ : Cut (row T₂ z) (okz mask) (p + sy.top) (row U z)
                  cut_z₁ = subst (λ (k : ℕ). Cut (row T₂ z) (okz mask) k (row U z)) (highest-one (okz mask) sz.top (p + sy.top) sz.longest high-top)
                      (subst (λ (v : List ℕ). Cut v (okz mask) sz.top (row U z)) same-z sz.cut)

                  below₂ : p + sy.top ≤ p + m₂
                  below₂ = below h high begun₁ m₂ met₂ mask em sy.top sy.longest

                  cut-z : Cut r (okz mask) (p + sy.top) (row U z)
                  cut-z = side_cut (row T z) r (p + m₂) (row T₂ z) (a₁ || a₂) s₃.tidy-z small_z₂ side-z (okz mask) (p + sy.top) (row U z) below₂ cut_z₁
                      (okz mask) refl

                  -- the places of the rows of x and y are those of the whole string
                  parts-x : (i : ℕ) → i < p → word (row U x) (suc i) ≡ word r (suc i)
                  parts-x i l = ap (λ (v : List ℕ). word v (suc i)) same-x ∙ side-x.low i l

                  past-x : (i : ℕ) → p ≤ i → word (row U x) (suc i) ≡ 0
                  past-x i l = let e = top-x in ap (λ (v : List ℕ). word v (suc i)) same-x ∙ side-x.high i l ∙ s₃.tidy-x.gone i (omega arith)

                  first-x : word (row U x) 0 ≡ word (row T x) 0
                  first-x = ap (λ (v : List ℕ). word v 0) same-x ∙ side-x.first

                  parts-y : (i : ℕ) → i < sy.top → word (row U y) (suc i) ≡ word r (suc (p + i))
                  parts-y i l =
                      let b = below₂ in
                      let s₂ = small₂ in
                      cut-y.kept i l ∙ row-place T₂ y i (omega arith) ∙ m2.done.second i (omega arith) ∙ both₁ i (omega arith)
                      ∙ sym (r-ended i (omega arith))

                  cut-x : Cut r (2 ^ p) p (row U x)
                  cut-x = record {
                    size = let l = size₃ in let q = s₃.fits-x in row-length U x (omega arith);
                    first = first-x
                        ∙ only_x;
                    kept = parts-x;
                    gone = past-x;
                  }

                  window_y₂ : Window r (ok mask) p sy.top (row U y)
                  window_y₂ = record { size = cut-y.size; first = cut-y.first; kept = parts-y; gone = cut-y.gone }

                  fill₂ : (i : ℕ) → i < p + m₂ → 0 < word r (suc i)
                  fill₂ = (reach h high begun₁ m₂ met₂).filled

                  pub cat-some : Step U (Some (record { x = b₁; y = b₂ || f; z = (a₁ || a₂) || g }))
                  cat-some = three-left (cat 0 1 2) x y z T U size₃
                      (λ k o₁ o₂ o₃. only_out T₃ z U sz.only k o₃ ∙ only_out T₂ y T₃ sy.only k o₂ ∙ outside₂ k o₁ o₂ o₃)
                      (parts-narrowed (row T x) (row T y) (row T z) p small (row_words T bd x) (row_words T bd y) (row_words T bd z) allowed-x lx ly lz only_x
                      (row U x) (row U y) (row U z)
                      (parts_supported h high begun₁ m₂ met₂ mask em sy.top sy.longest (row U x) (row U y) (row U z) cut-x window_y₂ cut-z))
                      (record {
                        top = p;
                        longest = subst (λ (n : ℕ). Highest (word (row U x) 0) n) top-x
                            (subst (λ (w : ℕ). Highest w s₃.tidy-x.top) (sym first-x) s₃.tidy-x.longest);
                        filled = λ i l. subst (λ (w : ℕ). 0 < w) (sym (parts-x i l)) (fill₂ i (omega arith));
                        gone = past-x;
                      })
                      (record {
                        top = sy.top;
                        longest = subst (λ (w : ℕ). Highest w sy.top) (sym cut-y.first) sy.longest;
                        filled = λ i l. let b = below₂ in subst (λ (w : ℕ). 0 < w) (sym (parts-y i l)) (fill₂ (p + i) (omega arith));
                        gone = cut-y.gone;
                      })
                      (parts-tidy h high begun₁ m₂ met₂ mask em sy.top sy.longest (row U x) (row U y) (row U z) cut-x window_y₂ cut-z)
                      b₁ (b₂ || f) ((a₁ || a₂) || g)
                      (subst (λ (v : List ℕ). Flag (row T x) v b₁) (sym same-x) (side-plain (row T x) r p (row T₂ x) b₁ s₃.tidy-x
                      (let e = top-x in omega arith) side-x))
                      (side-flag (row T y) (row T₂ y) m₂ (row T₂ y) b₂ s₃.tidy-y small_y₂ side-y (ok mask)
                      sy.top (row U y) (let b = below₂ in omega arith) cut-y f
                      (λ e. same-y ∙ ap (λ (L : List ℕ). row L y) (sy.same e)) (λ e k. sy.less e (sym (row_first T₂ y) ∙ k)))
                      (side-flag (row T z) r (p + m₂) (row T₂ z) (a₁ || a₂) s₃.tidy-z small_z₂ side-z (okz mask) (p + sy.top) (row U z) below₂ cut_z₁ g
                      (λ e. ap (λ (L : List ℕ). row L z) (sz.same e) ∙ same-z) (λ e k. sz.less e
                      (sym (row_first T₃ z) ∙ ap (λ (v : List ℕ). word v 0) same-z ∙ k)))
