-- One start, by support: Y's least length decides for X, X's greatest for Y, and the start is left if a choice has it. Assumes nothing.
use mathlib.Core.Path.{◌≡◌, refl, sym, ap, subst, ◌∙◌}
use mathlib.Core.Bool.{Bool, true, false, cond, ◌&&◌, false≢true}
use mathlib.Core.List.{List, map}
use Prim.Native.Nat.{ℕ, suc, ◌+◌, ◌-◌, ◌≤◌, ◌<◌}
use native.Mathlib.Omega.{arith}
use lib.Dec.{ltb, leb}
use lib.ListN.{length, get_or, take, drop, length-drop}
use lib.Seq.{length-take-le, get_or-take, get_or-drop}
use borrow.Author.Tests.{ltb-true, ltb-false, lt-ltb, leb-true, le-leb}
use Rattle.model.specs.Lists.{upto}
use Rattle.model.specs.Words.{bit, word}
use Rattle.model.specs.Solutions.{text_bit}
use Rattle.words.specs.Ends.{Lowest}
use Rattle.rows.proofs.Fill.{tabulated_length, tabulated_word}
use Rattle.rows.proofs.TrimLaws.{made}
use Rattle.laws.specs.Supported.{InRow, Supports}
use Rattle.laws.proofs.ListLaws.{and_true}
use Rattle.laws.proofs.ShiftLaws.{and-bit}
use Rattle.laws.proofs.Supports.{moved-support}
use Rattle.inplace.proofs.Tables.{bit-some}
use Rattle.sub.specs.Substrings.{Alive, Fitting}
use Rattle.sub.proofs.PartRows.{Part}
use Rattle.sub.proofs.TidyLaws.{Longest}
use Rattle.sub.proofs.RowsAt.{Holds}

-- ---- a string with another laid over it after off symbols

laid-over : ℕ → List ℕ → List ℕ → ℕ → ℕ
laid-over off v w j = cond (leb off j && ltb j (off + length v)) (get_or v (j - off) 0) (get_or w j 0)

laid-inside : (off : ℕ) (v w : List ℕ) (j : ℕ) → j < length v → laid-over off v w (off + j) ≡ get_or v j 0
unfolding laid-over
laid-inside off v w j h =
    let e : off + j - off ≡ j = omega arith in
    rw (le-leb off (off + j) (omega arith), lt-ltb (off + j) (off + length v) (omega arith), e)

-- its symbol at j is one of v's, or w's own
laid-cases : (off : ℕ) (v w : List ℕ) (P : ℕ → ℕ → Type 0) → ((j : ℕ) → j < length v → P (off + j) (get_or v j 0)) → (j : ℕ) → P j (get_or w j 0)
    → P j (laid-over off v w j)
unfolding laid-over
laid-cases off v w P inside j outside = go (leb off j && ltb j (off + length v)) refl
  where
    go : (t : Bool) → (leb off j && ltb j (off + length v)) ≡ t → P j (cond t (get_or v (j - off) 0) (get_or w j 0))
    go true q =
        let b = and_true (leb off j) (ltb j (off + length v)) q in
        let h : off ≤ j = leb-true off j b.0 in
        let k : j < off + length v = ltb-true j (off + length v) b.1 in
        let e : off + (j - off) ≡ j = omega arith in
        subst (λ (i : ℕ). P i (get_or v (j - off) 0)) e (inside (j - off) (omega arith))
    go false q = outside

-- the part starts after off symbols, and is found there
pub record PartAt (x y : List ℕ) (n off : ℕ) (v : Part) : Type 0 where
  pub in_whole : InRow x v.whole
  pub in_part : InRow y v.part
  pub in_start : bit n v.start ≡ true
  pub starts : v.start ≡ suc off
  pub reached : off + length v.part ≤ length v.whole
  pub found : (j : ℕ) → j < length v.part → get_or v.whole (off + j) 0 ≡ get_or v.part j 0

module _ (x y : List ℕ) (n off : ℕ) where
  module _ (least : ℕ) (low : Lowest (word y 0) least) where
    at_least : (w : List ℕ) → InRow y w → least ≤ length w
    at_least w i = go (ltb (length w) least) refl
      where
        go : (t : Bool) → ltb (length w) least ≡ t → least ≤ length w
        go true q = absurd (false≢true (sym (low.below (length w) (ltb-true (length w) least q)) ∙ i.length-bit))
        go false q = ltb-false (length w) least q

    -- what every choice asks of X
    least-reached : (v : Part) → PartAt x y n off v → off + least ≤ length v.whole
    least-reached v p =
        let m = at_least v.part p.in_part in
        let k = p.reached in
        omega arith

    -- ---- X

    first_part : List ℕ → Part
    first_part w = record { whole = w; part = take least (drop off w); start = suc off }

    of-holds : bit n (suc off) ≡ true → (w : List ℕ) → Holds x y off least w → PartAt x y n off (first_part w)
    unfolding first_part
    of-holds e w h =
        let k = h.long in
        let ld = length-drop off w in
        let l : length (take least (drop off w)) ≡ least = length-take-le least (drop off w) (omega arith) in
        let at : (j : ℕ) → j < least → get_or w (off + j) 0 ≡ get_or (take least (drop off w)) j 0 = λ j g.
        sym (get_or-take least (drop off w) j 0 g ∙ get_or-drop off w j 0) in
        record {
          in_whole = h.inside;
          in_part = record {
            length-bit = ap (bit (word y 0)) l ∙ low.here;
            symbol-bits = λ j g. ap (bit (word y (suc j))) (sym (at j (omega arith))) ∙ h.allowed j (omega arith);
          };
          in_start = e;
          starts = refl;
          reached = subst (λ (i : ℕ). off + i ≤ length w) (sym l) k;
          found = λ j g. at j (omega arith);
        }

    in_holds : (v : Part) → PartAt x y n off v → Holds x y off least v.whole
    in_holds v p = record {
      inside = p.in_whole;
      long = least-reached v p;
      allowed = λ j h.
          let k = at_least v.part p.in_part in
          ap (bit (word y (suc j))) (p.found j (omega arith)) ∙ p.in_part.symbol-bits j (omega arith);
    }

    pub wholes_supported : bit n (suc off) ≡ true → (r : List ℕ) → Supports (Holds x y off least) text_bit 64 r
        → Supports (PartAt x y n off) (λ v. text_bit v.whole) 64 r
    unfolding first_part
    wholes_supported e r = moved-support (Holds x y off least) (PartAt x y n off) text_bit (λ v. text_bit v.whole) 64 r
        (λ w h. (first_part w, of-holds e w h, λ i k. refl)) (λ v p. (v.whole, in_holds v p, λ i k. refl))

    -- ---- N

    -- a start that a choice has is left
    pub choice-alive : (top : ℕ) → Longest x top → (v : Part) → PartAt x y n off v → Alive x y off least top
    choice-alive top longest v p =
        let k = least-reached v p in
        let m = longest.most v.whole p.in_whole in
        let a = at_least v.part p.in_part in
        let r = p.reached in
        record {
          far = omega arith;
          filled = λ j h. bit-some _ (get_or v.part j 0) (and-bit (word x (suc (off + j))) (word y (suc j)) (get_or v.part j 0)
              (ap (bit (word x (suc (off + j)))) (sym (p.found j (omega arith))) ∙ p.in_whole.symbol-bits (off + j) (omega arith))
              (p.in_part.symbol-bits j (omega arith)));
        }

  -- ---- Y

  module _ (top : ℕ) (longest : Longest x top) where
    pub in_fits : (v : Part) → PartAt x y n off v → Fitting x y off top v.part
    in_fits v p =
        let m = longest.most v.whole p.in_whole in
        let k = p.reached in
        record {
          inside = p.in_part;
          short = omega arith;
          allowed = λ j h. ap (bit (word x (suc (off + j)))) (sym (p.found j h)) ∙ p.in_whole.symbol-bits (off + j) (omega arith);
        }

    pub around : List ℕ → List ℕ
    around v = map (laid-over off v longest.string) (upto top)

    around_in : (v : List ℕ) → Fitting x y off top v → InRow x (around v)
    unfolding around
    around_in v f = made x top (laid-over off v longest.string)
        (subst (λ (l : ℕ). bit (word x 0) l ≡ true) longest.long longest.inside.length-bit)
        (λ j h. laid-cases off v longest.string (λ i a. bit (word x (suc i)) a ≡ true) (λ i k. f.allowed i k) j
        (longest.inside.symbol-bits j (subst (λ (l : ℕ). j < l) (sym longest.long) h)))

    pub of-fits : bit n (suc off) ≡ true → (v : List ℕ) → Fitting x y off top v → PartAt x y n off (record { whole = around v; part = v; start = suc off })
    unfolding around
    of-fits e v f =
        let k = f.short in
        record {
          in_whole = around_in v f;
          in_part = f.inside;
          in_start = e;
          starts = refl;
          reached = subst (λ (l : ℕ). off + length v ≤ l) (sym (tabulated_length (laid-over off v longest.string) top)) k;
          found = λ j h. tabulated_word (laid-over off v longest.string) top (off + j) (omega arith) ∙ laid-inside off v longest.string j h;
        }
