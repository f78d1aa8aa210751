-- Cat in place, where the first string may have several lengths: the gathered rows at the start, and the rows that are written at the end. Assumes nothing.
use Rattle.std.specs.Prelude.{Option, Some, None}
use mathlib.Core.Path.{◌≡◌, refl, sym, ap, ap₂, subst, ◌∙◌}
use mathlib.Core.Logic.{◌≢◌}
use mathlib.Core.Bool.{Bool, true, false, false≢true}
use mathlib.Core.List.{List, [], ◌∷◌, ◌++◌}
use Prim.Native.Nat.{ℕ, suc, ◌+◌, ◌-◌, ◌*◌, ◌^◌, ◌≤◌, ◌<◌}
use native.Mathlib.Omega.{arith}
use lib.Bits.{bit_and}
use lib.Dec.{ltb}
use lib.ListN.{length, get_or, replicate, length-append, get_or-append}
use borrow.Author.Tests.{lt-ltb, ltb-true, ltb-false}
use Rattle.model.specs.Words.{bit, word, Words}
use Rattle.model.specs.Domains.{row}
use Rattle.model.specs.Constraints.{cat}
use Rattle.words.specs.Ends.{Highest}
use Rattle.rows.proofs.ChoiceLaws.{no-choice}
use Rattle.laws.proofs.ListLaws.{get_or-zeros}
use Rattle.laws.proofs.DomainLaws.{row-length, row_words}
use Rattle.laws.proofs.WordLaws.{zero_bit}
use Rattle.laws.proofs.ShiftLaws.{and-bit, of-and-bit, bit_mask}
use Rattle.inplace.specs.declared.Changed.{Changed}
use Rattle.inplace.specs.InPlace.{InPlace}
use Rattle.inplace.specs.InTable.{Tidy, Flag, Meets}
use Rattle.inplace.specs.Written.{Replacing, Replaced}
use Rattle.inplace.proofs.Tables.{row_first, row-place, highest-most, only-other, only_out}
use Rattle.inplace.proofs.Supported.{support-within, support-choice, support-tidy}
use Rattle.inplace.proofs.Replacing.{replacing_one, replaced-one}
use Rattle.inplace.proofs.Shapes.{three-left, three-none}
use Rattle.cat.specs.Splits.{Three, Split, Outside, Supported}
use Rattle.cat.specs.Strings.{Strings}
use Rattle.cat.specs.declared.Rows.{Rows}
use Rattle.cat.specs.Gathering.{Gathered, Complete}
use Rattle.cat.proofs.CatLaws.{none_supported, cat-narrowed}

module _ (T : List ℕ) (x y z : ℕ) (s₃ : Strings T x y z) (bd : Words T) where
  abbrev Ok : ℕ → Three → Type 0
  Ok rest = Outside (row T x) (row T y) (row T z) rest

  -- ---- the start: lengths past the places that meet have no choice

  module _ (h : ℕ) (high : Highest (word T (64 * x)) h) where
    module _ (seen : ℕ) (met : Meets T (64 * z) (64 * x) h seen) (mask : ℕ) (em : mask ≡ 2 ^ (seen + 1) - 1) where
      abbrev rest : ℕ
      rest = bit_and (word T (64 * x)) mask

      of-rest : (b : ℕ) → bit rest b ≡ true → (bit (word T (64 * x)) b ≡ true) × (b ≤ seen)
      of-rest b e =
          let t = of-and-bit (word T (64 * x)) mask b e in
          let k = ltb-true b (seen + 1) (sym (bit_mask (seen + 1) b) ∙ ap (λ (w : ℕ). bit w b) (sym em) ∙ t.1) in
          (t.0, omega arith)

      in_rest : (b : ℕ) → bit (word T (64 * x)) b ≡ true → b ≤ seen → bit rest b ≡ true
      in_rest b e l = and-bit (word T (64 * x)) mask b e (ap (λ (w : ℕ). bit w b) em ∙ bit_mask (seen + 1) b ∙ lt-ltb b (seen + 1) (omega arith))

      never : (v : Three) → Ok rest v → ⊥
      never v o =
          let s = o.2 in
          let allowed : bit (word T (64 * x)) o.0 ≡ true = ap (λ (w : ℕ). bit w o.0) (sym (row_first T x)) ∙ ap (bit (word (row T x) 0)) (sym s.long)
          ∙ s.in_first.length-bit in
          go s allowed (ltb seen o.0) refl
        where
          go : Split (row T x) (row T y) (row T z) o.0 v → bit (word T (64 * x)) o.0 ≡ true → (t : Bool) → ltb seen o.0 ≡ t → ⊥
          go s e false q = false≢true (sym o.1 ∙ in_rest o.0 e (ltb-false seen o.0 q))
          go s e true q =
              let l = ltb-true seen o.0 q in
              let k = highest-most (word T (64 * x)) h o.0 high e in
              let n = s.long in
              let c = high.small in
              let a : ℕ = get_or v.first seen 0 in
              let same : get_or v.third seen 0 ≡ a = ap (λ (u : List ℕ). get_or u seen 0) s.followed
              ∙ get_or-append v.first v.second 0 seen (omega arith) in
              let long : seen < length v.third = subst (λ (u : List ℕ). seen < length u) (sym s.followed)
              (omega (arith, length-append v.first v.second)) in
              let bz : bit (word T (suc (64 * z + seen))) a ≡ true =
              ap (λ (w : ℕ). bit w a) (sym (row-place T z seen (omega arith))) ∙ ap (bit (word (row T z) (suc seen))) (sym same)
              ∙ s.in_third.symbol-bits seen long in
              let bx : bit (word T (suc (64 * x + seen))) a ≡ true = ap (λ (w : ℕ). bit w a) (sym (row-place T x seen (omega arith)))
              ∙ s.in_first.symbol-bits seen (omega arith) in
              false≢true (sym (zero_bit a) ∙ ap (λ (w : ℕ). bit w a) (sym (met.stop (omega arith))) ∙ and-bit (word T (suc (64 * z + seen)))
              (word T (suc (64 * x + seen))) a bz bx)

      pub gather-start : Gathered T x y z rest 0 (record { x = replicate 64 0; y = replicate 64 0; z = replicate 64 0 })
      gather-start = record {
        support = none_supported (Ok rest) never _ _ _ refl refl refl;
        ahead = λ b e. omega arith;
        allowed = λ b e. (of-rest b e).0;
        meeting = λ b e i l. let k = (of-rest b e).1 in met.filled i (omega arith);
        first = λ i l. absurd (omega arith);
        ended = λ i l. get_or-zeros 64 (suc i);
        third = λ i l. absurd (omega arith);
      }

  -- ---- the end

  module _ (R : Rows) (all : Complete T x y z R) where
    abbrev s : Supported (Ok 0) R.x R.y R.z
    s = all.support

    abbrev Step : List ℕ → Option Changed → Type 0
    Step U c = InPlace [] (cat 0 1 2) (x ∷ y ∷ z ∷ []) [] T U c

    lx : length (row T x) ≡ 64
    lx = row-length T x s₃.fits-x

    ly : length (row T y) ≡ 64
    ly = row-length T y s₃.fits-y

    lz : length (row T z) ≡ 64
    lz = row-length T z s₃.fits-z

    pub step-none : word R.x 0 ≡ 0 → Step T None
    step-none e = three-none (cat 0 1 2) x y z T T refl (λ k f g h. refl)
        (cat-narrowed (row T x) (row T y) (row T z) lx ly lz (row_words T bd x) (row_words T bd y) (row_words T bd z) _ _ _
        (none_supported (Ok 0) (no-choice (Ok 0) (λ v. v.first) R.x s.firsts e) _ _ _ refl refl refl))

    module _ (some : word R.x 0 ≢ 0) where
      choice : (v : Three) × Ok 0 v
      choice = support-choice (Ok 0) (λ v. v.first) R.x s.firsts (row T x) (row_words T bd x) (λ v o. o.2.in_first) (omega arith)

      tidy-x : Tidy R.x
      tidy-x = support-tidy (Ok 0) (λ v. v.first) R.x s.firsts (row T x) (row_words T bd x) (λ v o. o.2.in_first) choice.0 choice.1

      tidy-y : Tidy R.y
      tidy-y = support-tidy (Ok 0) (λ v. v.second) R.y s.seconds (row T y) (row_words T bd y) (λ v o. o.2.in_second) choice.0 choice.1

      tidy-z : Tidy R.z
      tidy-z = support-tidy (Ok 0) (λ v. v.third) R.z s.thirds (row T z) (row_words T bd z) (λ v o. o.2.in_third) choice.0 choice.1

      pub step-x : Replacing T x R.x 0
      step-x = replacing_one T x R.x s₃.fits-x s₃.tidy-x s.firsts.count tidy-x
          (support-within (Ok 0) (λ v. v.first) R.x s.firsts (row T x) (row_words T bd x) (λ v o. o.2.in_first))

      module _ (T₁ : List ℕ) (f : Bool) (r₁ : Replaced T x (row R.x 0) T₁ f) where
        same-y : row T₁ y ≡ row T y
        same-y = only-other T x T₁ r₁.only y s₃.fits-y s₃.y≢x

        pub step-y : Replacing T₁ y R.y 0
        step-y =
            let e = r₁.only.size in
            let g = s₃.fits-y in
            replacing_one T₁ y R.y (omega arith) (subst Tidy (sym same-y) s₃.tidy-y) s.seconds.count tidy-y
            (λ b k. ap (λ (v : List ℕ). bit (word v 0) b) same-y
            ∙ support-within (Ok 0) (λ v. v.second) R.y s.seconds (row T y) (row_words T bd y) (λ v o. o.2.in_second) b k)

        module _ (T₂ : List ℕ) (g : Bool) (r₂ : Replaced T₁ y (row R.y 0) T₂ g) where
          same-z : row T₂ z ≡ row T z
          same-z =
              let e = r₁.only.size in
              let k = s₃.fits-z in
              only-other T₁ y T₂ r₂.only z (omega arith) s₃.z≢y ∙ only-other T x T₁ r₁.only z k s₃.z≢x

          pub step-z : Replacing T₂ z R.z 0
          step-z =
              let e = r₁.only.size in
              let d = r₂.only.size in
              let k = s₃.fits-z in
              replacing_one T₂ z R.z (omega arith) (subst Tidy (sym same-z) s₃.tidy-z) s.thirds.count tidy-z
              (λ b k. ap (λ (v : List ℕ). bit (word v 0) b) same-z
              ∙ support-within (Ok 0) (λ v. v.third) R.z s.thirds (row T z) (row_words T bd z) (λ v o. o.2.in_third) b k)

          module _ (U : List ℕ) (h : Bool) (r₃ : Replaced T₂ z (row R.z 0) U h) where
            size_U : length U ≡ length T
            size_U = r₃.only.size ∙ r₂.only.size ∙ r₁.only.size

            end-y : row U y ≡ row T₂ y
            end-y =
                let e = r₁.only.size in
                let d = r₂.only.size in
                let k = s₃.fits-y in
                only-other T₂ z U r₃.only y (omega arith) (λ q. s₃.z≢y (sym q))

            end-x : row U x ≡ row T₁ x
            end-x =
                let e = r₁.only.size in
                let d = r₂.only.size in
                let k = s₃.fits-x in
                only-other T₂ z U r₃.only x (omega arith) (λ q. s₃.z≢x (sym q)) ∙ only-other T₁ y T₂ r₂.only x (omega arith) (λ q. s₃.y≢x (sym q))

            new-x : row U x ≡ R.x
            new-x = end-x ∙ replaced-one T x R.x T₁ f s.firsts.count r₁

            new-y : row U y ≡ R.y
            new-y = end-y ∙ replaced-one T₁ y R.y T₂ g s.seconds.count r₂

            new-z : row U z ≡ R.z
            new-z = replaced-one T₂ z R.z U h s.thirds.count r₃

            pub step-some : Step U (Some (record { x = f; y = g; z = h }))
            step-some = three-left (cat 0 1 2) x y z T U size_U
                (λ k o₁ o₂ o₃. only_out T₂ z U r₃.only k o₃ ∙ only_out T₁ y T₂ r₂.only k o₂ ∙ only_out T x T₁ r₁.only k o₁)
                (ap₂ (λ (u v : List ℕ). u ++ v) new-x (ap₂ (λ (u v : List ℕ). u ++ v) new-y new-z)
                ∙ cat-narrowed (row T x) (row T y) (row T z) lx ly lz (row_words T bd x) (row_words T bd y) (row_words T bd z) R.x R.y R.z s)
                (subst Tidy (sym new-x) tidy-x) (subst Tidy (sym new-y) tidy-y) (subst Tidy (sym new-z) tidy-z) f g h
                (subst (λ (v : List ℕ). Flag (row T x) v f) (sym end-x) r₁.flag)
                (subst (λ (v : List ℕ). Flag (row T y) v g) (sym end-y) (subst (λ (u : List ℕ). Flag u (row T₂ y) g) same-y r₂.flag))
                (subst (λ (u : List ℕ). Flag u (row U z) h) same-z r₃.flag)
