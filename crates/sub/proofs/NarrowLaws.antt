-- The step in place, by what its functions ensure. Assumes nothing.
use Rattle.std.specs.Prelude.{Some, None}
use mathlib.Core.Path.{◌≡◌, refl, sym, ap, ap₂, subst, ◌∙◌}
use mathlib.Core.Logic.{◌≢◌}
use mathlib.Core.Bool.{Bool, not}
use mathlib.Core.List.{List, [], ◌∷◌, ◌++◌}
use Prim.Native.Nat.{ℕ, ◌+◌, ◌*◌, ◌≤◌, ◌<◌}
use native.Mathlib.Omega.{arith}
use lib.Dec.{eqb}
use lib.ListN.{length, set, length-set}
use lib.Seq.{get_or-set_same, get_or-set_other}
use Rattle.model.specs.Words.{bit, word, Words}
use Rattle.model.specs.Domains.{row}
use Rattle.model.specs.Constraints.{sub}
use Rattle.words.specs.Ends.{Highest, Lowest}
use Rattle.laws.proofs.DomainLaws.{row-length, row_words}
use Rattle.inplace.specs.InTable.{Tidy, Flag}
use Rattle.inplace.specs.InPlace.{InPlace}
use Rattle.inplace.specs.Written.{Replacing, Replaced}
use Rattle.inplace.proofs.Tables.{row_first, highest-one, same_row, only-other, only_out}
use Rattle.inplace.proofs.Supported.{support-within, support-choice, support-tidy}
use Rattle.inplace.proofs.Replacing.{replacing_one, replaced-one}
use Rattle.inplace.proofs.Shapes.{part_left, part_none}
use Rattle.sub.specs.Substrings.{Room, Somewhere, Started, Left, Wholes}
use Rattle.sub.proofs.SubLaws.{sub-none, sub-some, parts-some}

module _ (T : List ℕ) (bd : Words T) (x y i : ℕ) (fx : 64 * x + 64 ≤ i) (fy : 64 * y + 64 ≤ i) (fi : i < length T) (apart : y ≢ x) (tx : Tidy (row T x))
    (ty : Tidy (row T y))
    (least most longest : ℕ) (low : Lowest (word T (64 * y)) least) (high : Highest (word T (64 * y)) most) (top : Highest (word T (64 * x)) longest) where
  low-y : Lowest (word (row T y) 0) least
  low-y = subst (λ (w : ℕ). Lowest w least) (sym (row_first T y)) low

  top-x : Highest (word (row T x) 0) longest
  top-x = subst (λ (w : ℕ). Highest w longest) (sym (row_first T x)) top

  pub step_room : Room T x y least most longest
  step_room = record {
    fits-x = omega arith;
    fits-y = omega arith;
    low = low-y;
    high = subst (λ (w : ℕ). Highest w most) (sym (row_first T y)) high;
    top = top-x;
  }

  is-top : longest ≡ tx.top
  is-top = highest-one (word (row T x) 0) longest tx.top top-x tx.longest

  module _ (n : ℕ) (r : List ℕ) (s : Started (row T x) (row T y) (word T i) least longest 0 n r) where
    started : Started (row T x) (row T y) (word T i) least tx.top 0 n r
    started = subst (λ (k : ℕ). Started (row T x) (row T y) (word T i) least k 0 n r) is-top s

    pub step-none : n ≡ 0 → InPlace [] (sub 0 1 0) (x ∷ y ∷ []) (i ∷ []) T T None
    step-none z = part_none (sub 0 1 0) x y i T T refl (λ k a b d. refl)
        (sub-none (row T x) (row T y) (word T i) (row-length T x (omega arith)) (row-length T y (omega arith)) (row_words T bd x) (row_words T bd y) (bd i) tx
        least low-y n r started z)

    module _ (some : n ≢ 0) where
      pub step_left : Left T x y n least
      step_left = record {
        fits-x = omega arith;
        fits-y = omega arith;
        apart = apart;
        tidy = tx;
        some = omega arith;
        alive = λ b e. (started.sound b e).1;
      }

      -- ---- Y's row is tidy

      abbrev A : List ℕ → Type 0
      A w = Somewhere (row T x) (row T y) longest n w

      choice : (w : List ℕ) × A w
      choice = support-choice A (λ w. w) r s.parts (row T y) (row_words T bd y) (λ w a. a.2.inside)
          (parts-some (row T x) (row T y) (word T i) (row-length T x (omega arith)) (row-length T y (omega arith)) (row_words T bd x) (row_words T bd y) (bd i) tx
          least low-y n r started (omega arith))

      tidy-r : Tidy r
      tidy-r = support-tidy A (λ w. w) r s.parts (row T y) (row_words T bd y) (λ w a. a.2.inside) choice.0 choice.1

      module _ (T₁ : List ℕ) (p : Bool) (w : Wholes T x y n least T₁ p) where
        same-y : row T₁ y ≡ row T y
        same-y = only-other T x T₁ w.only y (omega arith) apart

        pub step_replacing : Replacing T₁ y r 0
        step_replacing =
            let z = w.only.size in
            replacing_one T₁ y r (omega arith) (subst Tidy (sym same-y) ty) s.parts.count tidy-r
            (λ b e. ap (λ (u : List ℕ). bit (word u 0) b) same-y ∙ support-within A (λ w. w) r s.parts (row T y) (row_words T bd y) (λ w a. a.2.inside) b e)

        module _ (T₂ : List ℕ) (q : Bool) (v : Replaced T₁ y (row r 0) T₂ q) (U : List ℕ) (c : Bool) (put : (U ≡ set T₂ i n) × (c ≡ not (eqb (word T₂ i) n))) where
          size : length U ≡ length T
          size = ap length put.0 ∙ length-set T₂ i n ∙ v.only.size ∙ w.only.size

          word_i : word U i ≡ n
          word_i = let a = v.only.size in let b = w.only.size in ap (λ (L : List ℕ). word L i) put.0 ∙ get_or-set_same T₂ i n 0 (omega arith)

          word_k : (k : ℕ) → k ≢ i → word U k ≡ word T₂ k
          word_k k d = ap (λ (L : List ℕ). word L k) put.0 ∙ get_or-set_other T₂ i k n 0 d

          row-z : (z : ℕ) → 64 * z + 64 ≤ i → row U z ≡ row T₂ z
          row-z z h =
              let a = v.only.size in
              let b = w.only.size in
              let l = size in
              same_row T₂ z U (omega arith) (omega arith) (λ j k. word_k (64 * z + j) (omega arith))

          row-x : row U x ≡ row T₁ x
          row-x = let b = w.only.size in row-z x fx ∙ only-other T₁ y T₂ v.only x (omega arith) (λ e. apart (sym e))

          row-y : row U y ≡ row T₂ y
          row-y = row-z y fy

          new-y : row U y ≡ r
          new-y = row-y ∙ replaced-one T₁ y r T₂ q s.parts.count v

          pub step-done : InPlace [] (sub 0 1 0) (x ∷ y ∷ []) (i ∷ []) T U (Some (record { x = p; y = q; z = c }))
          step-done = part_left (sub 0 1 0) x y i T U size
              (λ k ox oy d. word_k k d ∙ only_out T₁ y T₂ v.only k oy ∙ only_out T x T₁ w.only k ox)
              (ap₂ (λ (a b : List ℕ). a ++ b) row-x (ap₂ (λ (a : List ℕ) (b : ℕ). a ++ (b ∷ [])) new-y word_i)
              ∙ sub-some (row T x) (row T y) (word T i) (row-length T x (omega arith)) (row-length T y (omega arith)) (row_words T bd x) (row_words T bd y)
              (bd i) tx least low-y n r started
              (row T₁ x) (let b = w.only.size in row-length T₁ x (omega arith)) w.sound w.complete)
              (subst Tidy (sym row-x) w.tidy) (subst Tidy (sym new-y) tidy-r) p q c
              (subst (λ (u : List ℕ). Flag (row T x) u p) (sym row-x) w.flag)
              (subst (λ (a : List ℕ). Flag a (row U y) q) same-y (subst (λ (u : List ℕ). Flag (row T₁ y) u q) (sym row-y) v.flag))
              (put.1 ∙ ap₂ (λ (a b : ℕ). not (eqb a b)) (v.only.after i fy ∙ w.only.after i fx) (sym word_i))
