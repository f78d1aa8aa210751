-- Rev in place where there is one length. Assumes nothing.
use Rattle.std.specs.Prelude.{Option, Some, None, is_some}
use mathlib.Core.Path.{◌≡◌, refl, sym, ap, ap₂, subst, ◌∙◌}
use mathlib.Core.Logic.{◌≢◌}
use mathlib.Core.Bool.{Bool, true, false, ◌||◌}
use mathlib.Core.List.{List, [], ◌∷◌, ◌++◌}
use Prim.Native.Nat.{ℕ, suc, ◌+◌, ◌-◌, ◌*◌, ◌^◌, ◌≤◌, ◌<◌}
use native.Mathlib.Omega.{arith}
use lib.Bits.{bit_and}
use lib.ListN.{length, length-reverse}
use Rattle.std.proofs.lemmas.Nat.{and_comm}
use Rattle.model.specs.Words.{bit, several, word, Words}
use Rattle.model.specs.Domains.{row}
use Rattle.model.specs.Constraints.{rev}
use Rattle.model.specs.Support.{narrowed}
use Rattle.words.specs.Ends.{Highest}
use Rattle.rows.specs.Rows.{alone, trimmed}
use Rattle.laws.proofs.DomainLaws.{row_words}
use Rattle.laws.proofs.WordLaws.{pow_self, pow-only, pow-within, within_antisym}
use Rattle.laws.proofs.BitsLaws.{single, several_false}
use Rattle.laws.proofs.ShiftLaws.{and-bit, of-and-bit}
use Rattle.inplace.specs.InTable.{Tidy, Out, Only, Ready, Shortened}
use Rattle.inplace.specs.InPlace.{InPlace}
use Rattle.inplace.proofs.Reach.{whole-short}
use Rattle.inplace.proofs.Tables.{row_first, highest-most, only-other, only_out}
use Rattle.inplace.proofs.Sides.{Side}
use Rattle.inplace.proofs.Parts.{Part, pair-first, pair-second, pair_left}
use Rattle.inplace.proofs.Writing.{written-side, written-only}
use Rattle.rev.specs.Turned.{facing, Turning, Turn, Pair}
use Rattle.rev.proofs.RevLaws.{faced, faced-length, faced-first, faced-words, faced-trimmed, faced-empty, mirrored_one}
use Rattle.rev.proofs.TurnLaws.{M-place}
use Rattle.rev.proofs.RevSteps.{rev-rows, rev-nothing}

-- ---- words

and_again : (a b : ℕ) → bit_and b (bit_and a b) ≡ bit_and b a
and_again a b = within_antisym (bit_and b (bit_and a b)) (bit_and b a)
    (λ n e. let t = of-and-bit b (bit_and a b) n e in and-bit b a n t.0 (of-and-bit a b n t.1).0)
    (λ n e. let t = of-and-bit b a n e in and-bit b (bit_and a b) n t.0 (and-bit a b n t.1 t.0))

-- one side of a step at one length, l: the places that face each other have met
faced-part : (T : List ℕ) (x y ls l : ℕ) (bd : Words T) (small : l < 64) → 64 * x + 64 ≤ length T → Tidy (row T x) → bit (word T (64 * x)) l ≡ true
    → bit (word T (64 * y)) l ≡ true → ls ≡ 2 ^ l
    → ((n : ℕ) → bit ls n ≡ true → bit (word T (64 * x)) n ≡ true) → ((i : ℕ) → i < l → 0 < facing T (64 * x) (64 * y) l i)
    → (T₁ : List ℕ) (c : Bool) → Side (row T x) (faced (row T x) (row T y) l) l (row T₁ x) c → Part T x T₁ (faced (row T x) (row T y) l) l ls c
faced-part T x y ls l bd small f tidy in_x in_y e within filled T₁ c side =
    let M : List ℕ = faced (row T x) (row T y) l in
    let first : word (faced (row T x) (row T y) l) 0 ≡ 2 ^ l = faced-first (row T x) (row T y) l small in
    let most : (n : ℕ) → bit (word (faced (row T x) (row T y) l) 0) n ≡ true → n ≤ l = λ n q. let d = pow-only l n
    (ap (λ (w : ℕ). bit w n) (sym first) ∙ q) in omega arith in
    record {
      fits = f;
      tidy = tidy;
      small = highest-most (word (row T x) 0) tidy.top l tidy.longest (ap (λ (w : ℕ). bit w l) (row_first T x) ∙ in_x);
      side = side;
      words = faced-words (row T x) (row T y) l small (row_words T bd x);
      long = faced-length (row T x) (row T y) l small;
      reach = record {
        small = small;
        filled = λ i h. subst (λ (w : ℕ). 0 < w) (M-place T x y l bd small in_x in_y i h) (filled i h);
        stop = λ n q h. let k = most n q in absurd (omega arith);
      };
      lengths = e ∙ sym first ∙ sym (whole-short M l most);
      within = within;
    }

module _ (T : List ℕ) (x y ls : ℕ) (pair : Pair T x y ls) (bd : Words T) where
  abbrev fx : 64 * x + 64 ≤ length T
  fx = pair.fits-x

  abbrev fy : 64 * y + 64 ≤ length T
  fy = pair.fits-y

  module _ (one : several ls ≡ false) (l : ℕ) (high : Highest ls l) where
    is-pow : ls ≡ 2 ^ l
    is-pow = within_antisym ls (2 ^ l)
        (λ b e. subst (λ (n : ℕ). bit (2 ^ l) n ≡ true) (single ls l b (several_false ls one) high.small
        (row_words T bd x 0 b (ap (λ (w : ℕ). bit w b) (row_first T x) ∙ pair.lengths.first b e)) high.here e) (pow_self l))
        (pow-within l ls high.here)

    in_x : bit (word T (64 * x)) l ≡ true
    in_x = pair.lengths.first l high.here

    in_y : bit (word T (64 * y)) l ≡ true
    in_y = pair.lengths.second l high.here

    only-l : (n : ℕ) → bit (word (row T x) 0) n ≡ true → bit (word (row T y) 0) n ≡ true → n ≡ l
    only-l n p q = pow-only l n (ap (λ (w : ℕ). bit w n) (sym is-pow)
        ∙ pair.lengths.all n (ap (λ (w : ℕ). bit w n) (sym (row_first T x)) ∙ p) (ap (λ (w : ℕ). bit w n) (sym (row_first T y)) ∙ q))

    row-x : bit (word (row T x) 0) l ≡ true
    row-x = ap (λ (w : ℕ). bit w l) (row_first T x) ∙ in_x

    row-y : bit (word (row T y) 0) l ≡ true
    row-y = ap (λ (w : ℕ). bit w l) (row_first T y) ∙ in_y

    abbrev X : List ℕ
    X = faced (row T x) (row T y) l

    abbrev Y : List ℕ
    Y = faced (row T y) (row T x) l

    -- only places of x are written
    only_met : (U : List ℕ) (m : ℕ) (c : Bool) → m ≤ l → Turning T (64 * x) (64 * y) l U m c → Only T x U
    only_met U m c h t = let s = high.small in written-only T x _ m U c (omega arith) t.written

    pub one_none : (U : List ℕ) → Turn T (64 * x) (64 * y) l U None → InPlace [] (rev 0 1) (x ∷ y ∷ []) [] T U None
    one_none U turn =
        let s = turn.stop refl in
        let k = s.1 in
        let only : Only T x U = only_met U s.0 s.3.0 (omega arith) s.3.1 in
        rev-nothing T x y fx fy bd (λ u i.
        faced-empty (row T x) (row T y) l high.small (row_words T bd x) row-x row-y s.0 s.1
        (sym (M-place T x y l bd high.small in_x in_y s.0 s.1) ∙ s.2) u
        (record {
          own = i.own;
          other = i.other;
          long = only-l (length u) i.own.length-bit
              (subst (λ (k : ℕ). bit (word (row T y) 0) k ≡ true) (length-reverse u) i.other.length-bit);
        }))
        U only.size (λ k f g. only_out T x U only k f)

    module _ (T₁ : List ℕ) (cx : Bool) (turn : Turn T (64 * x) (64 * y) l T₁ (Some cx)) where
      abbrev met : Turning T (64 * x) (64 * y) l T₁ l cx
      met = turn.all cx refl

      only_x : Only T x T₁
      only_x = only_met T₁ l cx (omega arith) met

      module _ (T₂ : List ℕ) where
        -- the places of x are met already
        facing-back : (i : ℕ) → i < l → facing T₁ (64 * y) (64 * x) l i ≡ facing T (64 * y) (64 * x) l i
        facing-back i h =
            let s = high.small in
            let j : ℕ = l - suc i in
            let e : l - suc (l - suc i) ≡ i = omega arith in
            ap₂ bit_and (only-x-other (suc (64 * y + i)) (λ k g d. pair.apart (omega arith))) (met.written.low (l - suc i) (omega arith)
            ∙ ap (λ (k : ℕ). bit_and (word T (suc (64 * x + (l - suc i)))) (word T (suc (64 * y + k)))) e)
            ∙ and_again (word T (suc (64 * x + (l - suc i)))) (word T (suc (64 * y + i)))
          where
            only-x-other : (k : ℕ) → Out x k → word T₁ k ≡ word T k
            only-x-other = only_out T x T₁ only_x

        facing-turned : (i : ℕ) → i < l → facing T (64 * y) (64 * x) l i ≡ facing T (64 * x) (64 * y) l (l - suc i)
        facing-turned i h =
            let e : l - suc (l - suc i) ≡ i = omega arith in
            and_comm (word T (suc (64 * y + i))) (word T (suc (64 * x + (l - suc i)))) ∙ ap
            (λ (k : ℕ). bit_and (word T (suc (64 * x + (l - suc i)))) (word T (suc (64 * y + k)))) (sym e)

        filled-x : (i : ℕ) → i < l → 0 < facing T (64 * x) (64 * y) l i
        filled-x i h = met.filled i h

        filled-y : (i : ℕ) → i < l → 0 < facing T (64 * y) (64 * x) l i
        filled-y i h = subst (λ (w : ℕ). 0 < w) (sym (facing-turned i h)) (filled-x (l - suc i) (omega arith))

        -- so all of y's meet theirs
        pub one_back : (r : Option Bool) → Turn T₁ (64 * y) (64 * x) l T₂ r → is_some r ≡ true
        one_back None back =
            let s = back.stop refl in
            let e = facing-back s.0 s.1 in
            let p = filled-y s.0 s.1 in
            let z = s.2 in
            absurd (omega arith)
        one_back (Some cy) back = refl

        module _ (cy : Bool) (back : Turn T₁ (64 * y) (64 * x) l T₂ (Some cy)) where
          abbrev met-back : Turning T₁ (64 * y) (64 * x) l T₂ l cy
          met-back = back.all cy refl

          only-y : Only T₁ y T₂
          only-y =
              let s = high.small in
              written-only T₁ y _ l T₂ cy (omega arith) met-back.written

          size : length T₂ ≡ length T
          size = only-y.size ∙ only_x.size

          others : (k : ℕ) → Out x k → Out y k → word T₂ k ≡ word T k
          others k f g = only_out T₁ y T₂ only-y k g ∙ only_out T x T₁ only_x k f

          side-x : Side (row T x) X l (row T₂ x) cx
          side-x =
              let s = high.small in
              let k = only_x.size in
              subst (λ (u : List ℕ). Side (row T x) X l u cx) (sym (only-other T₁ y T₂ only-y x (omega arith) (λ d. pair.apart (sym d))))
              (written-side T x (facing T (64 * x) (64 * y) l) l T₁ cx (omega arith) fx X (M-place T x y l bd high.small in_x in_y)
              met.written)

          side-y : Side (row T y) Y l (row T₂ y) cy
          side-y =
              let s = high.small in
              let k = only_x.size in
              subst (λ (u : List ℕ). Side u Y l (row T₂ y) cy) (only-other T x T₁ only_x y fy pair.apart)
              (written-side T₁ y (facing T₁ (64 * y) (64 * x) l) l T₂ cy (omega arith) (omega arith) Y
              (λ i h. facing-back i h ∙ M-place T y x l bd high.small in_y in_x i h)
              met-back.written)

          part-x : Part T x T₂ X l ls cx
          part-x = faced-part T x y ls l bd high.small fx pair.tidy-x in_x in_y is-pow pair.lengths.first filled-x T₂ cx side-x

          part-y : Part T y T₂ Y l ls cy
          part-y = faced-part T y x ls l bd high.small fy pair.tidy-y in_y in_x is-pow pair.lengths.second filled-y T₂ cy side-y

          rows : trimmed X ++ trimmed Y ≡ narrowed (alone 2 0 []) (rev 0 1) (row T x ++ row T y)
          rows = rev-rows T x y fx fy bd (trimmed X) (trimmed Y)
              (mirrored_one (row T x) (row T y) l only-l (trimmed X) (faced-trimmed (row T x) (row T y) l high.small (row_words T bd x) row-x row-y))
              (mirrored_one (row T y) (row T x) l (λ n p q. only-l n q p) (trimmed Y)
              (faced-trimmed (row T y) (row T x) l high.small (row_words T bd y) row-y row-x))

          some : ls ≢ 0
          some = let s = pair.some in omega arith

          pub one-first : Ready T₂ x ls
          one-first = pair-first (rev 0 1) T x y pair.apart T₂ size others X Y l l ls ls cx cy part-x part-y some

          pub one-second : (T₃ : List ℕ) (p : Bool) → Shortened T₂ x ls T₃ p → Ready T₃ y ls
          one-second T₃ p s = pair-second (rev 0 1) T x y pair.apart T₂ size others X Y l l ls ls cx cy part-x part-y T₃ p s some

          pub one_left : (T₃ : List ℕ) (p : Bool) → Shortened T₂ x ls T₃ p → (U : List ℕ) (q : Bool) → Shortened T₃ y ls U q → (cx' cy' : Bool) → cx' ≡ (cx || p)
              → cy' ≡ (cy || q) → InPlace [] (rev 0 1) (x ∷ y ∷ []) [] T U (Some (record { x = cx'; y = cy'; z = false }))
          one_left T₃ p s = pair_left (rev 0 1) T x y pair.apart T₂ size others X Y l l ls ls cx cy part-x part-y T₃ p s rows
