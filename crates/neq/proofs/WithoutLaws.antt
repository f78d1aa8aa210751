-- String x without the one string of y, in place: what each way of `without` leaves, and how it is a step of Neq. Assumes nothing.
use Rattle.std.specs.Prelude.{Some, None}
use mathlib.Core.Path.{◌≡◌, refl, sym, ap, ap₂, subst, ◌∙◌}
use mathlib.Core.Logic.{◌≢◌}
use mathlib.Core.Bool.{Bool, true, false, false≢true}
use mathlib.Core.List.{List, [], ◌∷◌, ◌++◌}
use Prim.Native.Nat.{ℕ, suc, ◌+◌, ◌-◌, ◌*◌, ◌/◌, ◌^◌, ◌≤◌, ◌<◌}
use native.Mathlib.Omega.{arith}
use lib.Bits.{bit_and}
use lib.Dec.{eqb, ltb}
use lib.ListN.{length, get_or, set, length-set}
use lib.Pow.{pow-lt}
use lib.Seq.{get_or-set_same, get_or-set_other}
use borrow.Author.Tests.{eqb-true, eqb-false, ltb-true, ltb-false}
use Rattle.model.specs.Lists.{any}
use Rattle.model.specs.Words.{bit, bits, several, word, Words}
use Rattle.model.specs.Domains.{row}
use Rattle.model.specs.Constraints.{neq}
use Rattle.model.specs.Solutions.{text_bit}
use Rattle.model.specs.Support.{narrowed}
use Rattle.words.specs.Ends.{Highest}
use Rattle.rows.specs.Rows.{alone, trimmed}
use Rattle.rows.proofs.TrimLaws.{some-bit, trimmed-supports}
use Rattle.laws.specs.Inclusion.{Within}
use Rattle.laws.specs.Supported.{InRow, Supports}
use Rattle.laws.proofs.DomainLaws.{row-length, row_words, row-past}
use Rattle.laws.proofs.TableLaws.{words_of}
use Rattle.laws.proofs.WordLaws.{zero_bit, pow-only, pow_self}
use Rattle.laws.proofs.ShiftLaws.{of-and-bit, bit-shr}
use Rattle.inplace.specs.InPlace.{InPlace}
use Rattle.inplace.specs.InTable.{Tidy, Ready, Shortened, Flag, zeros}
use Rattle.inplace.proofs.Reach.{empty-none}
use Rattle.inplace.proofs.Tables.{row_first, row-place, highest-one, only_refl, only-other, only_out}
use Rattle.inplace.proofs.Shapes.{two-left, two_none}
use Rattle.inplace.proofs.Parts.{fewer, fewer-length, fewer-first, fewer-place, fewer-words, part-lengths, part-ready, part-row, part-tidy, part-flag}
use Rattle.neq.specs.Others.{Against, Alike, Without, OneOther}
use Rattle.neq.proofs.StepLaws.{against-several, other-stays, none_other, neq-narrowed}
use Rattle.neq.proofs.OtherLaws.{in_lacking, of-lacking, u, u-long, no_length, no_symbol}
use Rattle.neq.proofs.OtherLaws.{two-places, longer, length-gone, symbol-struck, symbol-tidy, symbol-gone}

module _ (T : List ℕ) (x y : ℕ) (asked : OneOther T x y) (fits : (i : ℕ) → word T i < 2 ^ 64) (l : ℕ) (high : Highest (word T (64 * y)) l) where
  fx : 64 * x + 64 ≤ length T
  fx = asked.fits-x

  fy : 64 * y + 64 ≤ length T
  fy = asked.fits-y

  tx : Tidy (row T x)
  tx = asked.tidy-x

  ty : Tidy (row T y)
  ty = asked.tidy-y

  one : any several (row T y) ≡ false
  one = asked.one

  bd : Words T
  bd = words_of T fits

  abbrev X : List ℕ
  X = row T x

  abbrev Y : List ℕ
  Y = row T y

  lX : length (row T x) ≡ 64
  lX = row-length T x fx

  lY : length (row T y) ≡ 64
  lY = row-length T y fy

  bX : Words (row T x)
  bX = row_words T bd x

  bY : Words (row T y)
  bY = row_words T bd y

  top-is : ty.top ≡ l
  top-is = highest-one (word T (64 * y)) ty.top l (subst (λ (w : ℕ). Highest w ty.top) (row_first T y) ty.longest) high

  long : length (u X Y lX lY bX bY tx ty one) ≡ l
  long = u-long X Y lX lY bX bY tx ty one ∙ top-is

  same_place : (j : ℕ) → j < l → word T (suc (64 * x + j)) ≡ word T (suc (64 * y + j)) → word X (suc j) ≡ word Y (suc j)
  same_place j h e = let s = high.small in row-place T x j (omega arith) ∙ e ∙ sym (row-place T y j (omega arith))

  other_place : (j : ℕ) → j < l → word T (suc (64 * x + j)) ≢ word T (suc (64 * y + j)) → word X (suc j) ≢ word Y (suc j)
  other_place j h n e = let s = high.small in n (sym (row-place T x j (omega arith)) ∙ e ∙ row-place T y j (omega arith))

  kept : Supports (Against X Y) text_bit 64 X → Without T x y T (Some false)
  kept s = record {
    only = only_refl T x;
    some = λ q. s;
    tidy = λ q. tx;
    flag = record { same = λ e. refl; differ = λ e. absurd (false≢true e) };
    none = λ q. absurd (false≢true (sym q));
  }

  pub without-length : bit (word T (64 * x)) l ≡ false → Without T x y T (Some false)
  without-length e = kept (no_length X Y lX lY bX bY tx ty one (ap₂ bit (row_first T x) top-is ∙ e))

  module _ (allowed : bit (word T (64 * x)) l ≡ true) (single : ℕ) (es : single ≡ 2 ^ l) where
    -- the other lengths of x
    abbrev others : ℕ
    others = bit_and (word T (64 * x)) (2 ^ 64 - 1 - single)

    single-fits : single < 2 ^ 64
    single-fits = subst (λ (w : ℕ). w < 2 ^ 64) (sym es) (pow-lt high.small)

    of_others : (b : ℕ) → bit others b ≡ true → (bit (word T (64 * x)) b ≡ true) × (b ≢ l)
    of_others b e =
        let g = (of-and-bit (word T (64 * x)) (2 ^ 64 - 1 - single) b e).0 in
        let t = of-lacking (word T (64 * x)) single b single-fits (bd (64 * x) b g) e in
        (g, λ d. false≢true (sym t.1 ∙ ap₂ bit es d ∙ pow_self l))

    in_others : (b : ℕ) → bit (word T (64 * x)) b ≡ true → b ≢ l → bit others b ≡ true
    in_others b e n = in_lacking (word T (64 * x)) single b single-fits (bd (64 * x) b e) e (ap (λ (w : ℕ). bit w b) es ∙ go (bit (2 ^ l) b) refl)
      where
        go : (t : Bool) → bit (2 ^ l) b ≡ t → t ≡ false
        go true q = absurd (n (pow-only l b q))
        go false q = refl

    within : Within others (word T (64 * x))
    within b e = (of_others b e).0

    -- ---- x allows just the symbols of the string: its length goes

    module _ (at : ℕ) (far : Alike T (64 * x) (64 * y) 0 l at) (all : at ≡ l) where
      abbrev M : List ℕ
      M = fewer T x fx bd tx others within

      struck : (r : List ℕ) → Supports (InRow M) text_bit 64 r → Supports (Against X Y) text_bit 64 r
      struck = length-gone X Y lX lY bX bY tx ty one
          (λ j h. let k : j < l = subst (λ (n : ℕ). j < n) long h in same_place j k (far.same j (omega arith) (omega arith))) M
          (λ b e. let t = of_others b (ap (λ (w : ℕ). bit w b) (sym (fewer-first T x fx bd tx others within)) ∙ e) in (
            ap (λ (w : ℕ). bit w b) (row_first T x)
                ∙ t.0,
            λ d. t.1 (d ∙ long),
          ))
          (λ b e n. ap (λ (w : ℕ). bit w b) (fewer-first T x fx bd tx others within) ∙ in_others b (ap (λ (w : ℕ). bit w b) (sym (row_first T x)) ∙ e)
          (λ d. n (d ∙ sym long)))
          (fewer-place T x fx bd tx others within)

      M-supports : Supports (InRow M) text_bit 64 (trimmed M)
      M-supports = trimmed-supports M (fewer-length T x fx bd tx others within) (fewer-words T x fx bd tx others within)

      pub without_all : others ≡ 0 → Without T x y T None
      without_all z = record {
        only = only_refl T x;
        some = λ q. absurd (false≢true q);
        tidy = λ q. absurd (false≢true q);
        flag = tt;
        none = λ q. struck zeros (subst (Supports (InRow M) text_bit 64)
            (sym (empty-none M (fewer-words T x fx bd tx others within) (fewer-length T x fx bd tx others within) (fewer-first T x fx bd tx others within ∙ z)))
            M-supports);
      }

      pub without-ready : others ≢ 0 → Ready T x others
      without-ready = part-ready T x T M tx.top others false (part-lengths T x fx bd tx others within T refl) T refl refl

      pub without_shorter : (U : List ℕ) (p : Bool) → Shortened T x others U p → Without T x y U (Some p)
      without_shorter U p s =
          let part = part-lengths T x fx bd tx others within T refl in
          record {
            only = s.only;
            some = λ q. struck (row U x) (subst (Supports (InRow M) text_bit 64) (sym (part-row T x T M tx.top others false part T refl refl U U p s refl))
                M-supports);
            tidy = λ q. part-tidy T x T M tx.top others false part T refl refl U U p s refl;
            flag = part-flag T x T M tx.top others false part T refl refl U U p s refl;
            none = λ q. absurd (false≢true (sym q));
          }

    -- ---- the rows differ first at a place of the string

    module _ (at : ℕ) (far : Alike T (64 * x) (64 * y) 0 l at) (some : at ≢ l) where
      below : at < l
      below = let s = far.small in omega arith

      inside : at < length (u X Y lX lY bX bY tx ty one)
      inside = subst (λ (n : ℕ). at < n) (sym long) below

      -- the two words, as the code reads them
      abbrev w : ℕ
      w = word T (64 * x + at + 1)

      abbrev v : ℕ
      v = word T (64 * y + at + 1)

      word-x : word X (suc at) ≡ w
      word-x =
          let s = high.small in
          let b = below in
          row-place T x at (omega arith) ∙ ap (word T) (omega arith)

      word-y : word Y (suc at) ≡ v
      word-y =
          let s = high.small in
          let b = below in
          row-place T y at (omega arith) ∙ ap (word T) (omega arith)

      here : word X (suc at) ≢ word Y (suc at)
      here = other_place at below (far.stop below)

      pub without-symbol : bit_and w v ≡ 0 → Without T x y T (Some false)
      without-symbol e = kept (no_symbol X Y lX lY bX bY tx ty one at inside (ap₂ bit_and word-x word-y ∙ e))

      pub without-longer : others / 2 ^ (at + 1) ≢ 0 → Without T x y T (Some false)
      without-longer n =
          let short : (b : ℕ) → bit (others / 2 ^ (at + 1)) b ≡ true → b < 64 = λ b e. let k = bd (64 * x) (at + 1 + b)
          (within (at + 1 + b) (sym (bit-shr others (at + 1) b) ∙ e)) in omega arith in
          let b : ℕ = get_or (bits (others / 2 ^ (at + 1))) 0 0 in
          let t = of_others (at + 1 + b) (sym (bit-shr others (at + 1) b) ∙ some-bit (others / 2 ^ (at + 1)) short (omega arith)) in
          kept (longer X Y lX lY bX bY tx ty one at (at + 1 + b) inside here (ap (λ (w : ℕ). bit w (at + 1 + b)) (row_first T x) ∙ t.0) (omega arith)
          (λ d. t.1 (d ∙ long)))

      module _ (next : ℕ) (on : Alike T (64 * x) (64 * y) (at + 1) l next) where
        pub without-two : next < l → Without T x y T (Some false)
        without-two h =
            let g = on.reached in
            kept (two-places X Y lX lY bX bY tx ty one at next inside (subst (λ (n : ℕ). next < n) (sym long) h) (λ e. omega arith) here
            (other_place next h (on.stop h)))

        module _ (meets : bit_and w v ≢ 0) (alone-there : others / 2 ^ (at + 1) ≡ 0) (end : l ≤ next) where
          abbrev U : List ℕ
          U = set T (64 * x + at + 1) (bit_and w (2 ^ 64 - 1 - v))

          kept_word : (k : ℕ) → k ≢ 64 * x + at + 1 → word U k ≡ word T k
          kept_word k n = get_or-set_other T (64 * x + at + 1) k (bit_and w (2 ^ 64 - 1 - v)) 0 n

          U-size : length U ≡ length T
          U-size = length-set T (64 * x + at + 1) (bit_and w (2 ^ 64 - 1 - v))

          small : at < 63
          small =
              let s = high.small in
              let b = below in
              omega arith

          U-first : word (row U x) 0 ≡ word X 0
          U-first = row_first U x ∙ kept_word (64 * x) (omega arith) ∙ sym (row_first T x)

          U-here : word (row U x) (suc at) ≡ bit_and (word X (suc at)) (2 ^ 64 - 1 - word Y (suc at))
          U-here =
              let s = small in
              let d : suc (64 * x + at) ≡ 64 * x + at + 1 = omega arith in
              row-place U x at small ∙ ap (word U) d ∙ get_or-set_same T (64 * x + at + 1) (bit_and w (2 ^ 64 - 1 - v)) 0 (omega arith)
              ∙ ap₂ (λ (a b : ℕ). bit_and a (2 ^ 64 - 1 - b)) (sym word-x) (sym word-y)

          U-else : (j : ℕ) → j ≢ at → word (row U x) (suc j) ≡ word X (suc j)
          U-else j n = go (ltb j 63) refl
            where
              go : (t : Bool) → ltb j 63 ≡ t → word (row U x) (suc j) ≡ word X (suc j)
              go true q = let h = ltb-true j 63 q in row-place U x j h ∙ kept_word (suc (64 * x + j)) (omega arith) ∙ sym (row-place T x j h)
              go false q = let h = ltb-false j 63 q in row-past U x (suc j) (omega arith) ∙ sym (row-past T x (suc j) (omega arith))

          alike_else : (j : ℕ) → j < length (u X Y lX lY bX bY tx ty one) → j ≢ at → word X (suc j) ≡ word Y (suc j)
          alike_else j h n =
              let k : j < l = subst (λ (n : ℕ). j < n) long h in
              same_place j k (go (ltb j at) refl)
            where
              go : (t : Bool) → ltb j at ≡ t → word T (suc (64 * x + j)) ≡ word T (suc (64 * y + j))
              go true q = far.same j (omega arith) (ltb-true j at q)
              go false q =
                  let g = ltb-false j at q in
                  let k : j < l = subst (λ (n : ℕ). j < n) long h in
                  on.same j (omega arith) (omega arith)

          only-there : (n : ℕ) → bit (word X 0) n ≡ true → at < n → n ≡ length (u X Y lX lY bX bY tx ty one)
          only-there n e h = go (eqb n l) refl ∙ sym long
            where
              go : (t : Bool) → eqb n l ≡ t → n ≡ l
              go true q = eqb-true n l q
              go false q =
                  let d : at + 1 + (n - (at + 1)) ≡ n = omega arith in
                  let o = in_others n (ap (λ (w : ℕ). bit w n) (sym (row_first T x)) ∙ e) (eqb-false n l q) in
                  absurd (false≢true (sym (zero_bit (n - (at + 1))) ∙ ap (λ (w : ℕ). bit w (n - (at + 1))) (sym alone-there) ∙ bit-shr others (at + 1)
                  (n - (at + 1)) ∙ ap (bit others) d ∙ o))

          meets-row : bit_and (word X (suc at)) (word Y (suc at)) ≢ 0
          meets-row e = meets (ap₂ bit_and (sym word-x) (sym word-y) ∙ e)

          length_in : bit (word X 0) (length (u X Y lX lY bX bY tx ty one)) ≡ true
          length_in = ap₂ bit (row_first T x) long ∙ allowed

          v-fits : word Y (suc at) < 2 ^ 64
          v-fits = subst (λ (w : ℕ). w < 2 ^ 64) (sym word-y) (fits (64 * y + at + 1))

          U-long : length (row U x) ≡ 64
          U-long = let s = U-size in row-length U x (omega arith)

          pub without-struck : Without T x y U (Some true)
          without-struck = record {
            only = record { size = U-size; before = λ k h. kept_word k (omega arith); after = λ k h. let s = small in kept_word k (omega arith) };
            some = λ q. symbol-gone X Y lX lY bX bY tx ty one at inside meets-row here length_in alike_else only-there v-fits (row U x) U-long U-first U-here
                U-else;
            tidy = λ q. symbol-tidy X Y lX lY bX bY tx ty one at inside meets-row here length_in alike_else only-there v-fits (row U x) U-long U-first U-here
                U-else;
            flag = record {
              same = λ e. absurd (false≢true (sym e));
              differ = λ e. symbol-struck X Y lX lY bX bY tx ty one at inside meets-row here length_in alike_else only-there v-fits (row U x) U-long U-first
                  U-here U-else;
            };
            none = λ q. absurd (false≢true (sym q));
          }

-- ---- both sides

module _ (T : List ℕ) (x y : ℕ) (fx : 64 * x + 64 ≤ length T) (fy : 64 * y + 64 ≤ length T) (ne : y ≢ x) (tx : Tidy (row T x)) (ty : Tidy (row T y))
    (bd : Words T) where
  neq-rows : (rx ry : List ℕ) → Supports (Against (row T x) (row T y)) text_bit 64 rx → Supports (Against (row T y) (row T x)) text_bit 64 ry
      → rx ++ ry ≡ narrowed (alone 2 0 []) (neq 0 1) (row T x ++ row T y)
  neq-rows = neq-narrowed (row T x) (row T y) (row-length T x fx) (row-length T y fy) (row_words T bd x) (row_words T bd y)

  plain : (r : List ℕ) → Flag r r false
  plain r = record { same = λ e. refl; differ = λ e. absurd (false≢true e) }

  -- both stand for several strings
  pub neq-several : any several (row T x) ≡ true → any several (row T y) ≡ true → InPlace [] (neq 0 1) (x ∷ y ∷ []) [] T T (Some (record { x = false; y = false; z = false }))
  neq-several mx my =
      let lx = row-length T x fx in
      let ly = row-length T y fy in
      two-left (neq 0 1) x y T T refl (λ k f g. refl)
      (neq-rows (row T x) (row T y) (against-several (row T x) (row T y) lx ly (row_words T bd x) (row_words T bd y) tx ty my)
      (against-several (row T y) (row T x) ly lx (row_words T bd y) (row_words T bd x) ty tx mx))
      tx ty false false (plain (row T x)) (plain (row T y))

  -- y stands for one
  pub neq-first : any several (row T y) ≡ false → (U : List ℕ) (c : Bool) → Without T x y U (Some c)
      → InPlace [] (neq 0 1) (x ∷ y ∷ []) [] T U (Some (record { x = c; y = false; z = false }))
  neq-first one U c w =
      let e : row U y ≡ row T y = only-other T x U w.only y fy ne in
      let ry = subst (Supports (Against (row T y) (row T x)) text_bit 64) (sym e)
      (other-stays (row T x) (row T y) (row-length T y fy) (row_words T bd y) ty one (row U x) (w.tidy refl) (w.some refl)) in
      two-left (neq 0 1) x y T U w.only.size (λ k f g. only_out T x U w.only k f) (neq-rows (row U x) (row U y) (w.some refl) ry) (w.tidy refl)
      (subst Tidy (sym e) ty) c false
      w.flag (subst (λ (r : List ℕ). Flag (row T y) r false) (sym e) (plain (row T y)))

  pub neq_first-none : (U : List ℕ) → Without T x y U None → InPlace [] (neq 0 1) (x ∷ y ∷ []) [] T U None
  neq_first-none U w = two_none (neq 0 1) x y T U w.only.size (λ k f g. only_out T x U w.only k f)
      (neq-rows zeros zeros (w.none refl) (none_other (row T x) (row T y) (w.none refl)))

  -- x stands for one
  pub neq-second : any several (row T x) ≡ false → (U : List ℕ) (c : Bool) → Without T y x U (Some c)
      → InPlace [] (neq 0 1) (x ∷ y ∷ []) [] T U (Some (record { x = false; y = c; z = false }))
  neq-second one U c w =
      let e : row U x ≡ row T x = only-other T y U w.only x fx (λ d. ne (sym d)) in
      let rx = subst (Supports (Against (row T x) (row T y)) text_bit 64) (sym e)
      (other-stays (row T y) (row T x) (row-length T x fx) (row_words T bd x) tx one (row U y) (w.tidy refl) (w.some refl)) in
      two-left (neq 0 1) x y T U w.only.size (λ k f g. only_out T y U w.only k g) (neq-rows (row U x) (row U y) rx (w.some refl))
      (subst Tidy (sym e) tx) (w.tidy refl) false c
      (subst (λ (r : List ℕ). Flag (row T x) r false) (sym e) (plain (row T x))) w.flag

  pub neq_second-none : (U : List ℕ) → Without T y x U None → InPlace [] (neq 0 1) (x ∷ y ∷ []) [] T U None
  neq_second-none U w = two_none (neq 0 1) x y T U w.only.size (λ k f g. only_out T y U w.only k g)
      (neq-rows zeros zeros (none_other (row T y) (row T x) (w.none refl)) (w.none refl))
