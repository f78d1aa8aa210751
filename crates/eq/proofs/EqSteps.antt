-- Eq in place: what is left where the places have met up to some length. Assumes nothing.
use Rattle.std.specs.Prelude.{Some, None}
use mathlib.Core.Path.{◌≡◌, refl, sym, ap, ap₂, subst, ◌∙◌}
use mathlib.Core.Logic.{◌≢◌}
use mathlib.Core.Bool.{Bool, false, ◌||◌}
use mathlib.Core.List.{List, [], ◌∷◌, ◌++◌}
use Prim.Native.Nat.{ℕ, suc, ◌+◌, ◌-◌, ◌*◌, ◌^◌, ◌≤◌, ◌<◌}
use native.Mathlib.Omega.{arith}
use lib.Bits.{bit_and}
use lib.ListN.{length}
use Rattle.model.specs.Words.{bit, word, Words}
use Rattle.model.specs.Domains.{row}
use Rattle.model.specs.Constraints.{eq}
use Rattle.model.specs.Support.{narrowed}
use Rattle.words.specs.Ends.{Highest}
use Rattle.rows.specs.Rows.{alone, trimmed, met}
use Rattle.rows.proofs.TrimLaws.{short}
use Rattle.rows.proofs.MeetLaws.{met-length, met-word, met-words}
use Rattle.laws.proofs.ShiftLaws.{of-and-bit}
use Rattle.laws.proofs.DomainLaws.{row-length, row_words}
use Rattle.inplace.specs.InTable.{Tidy, Out, Ready, both, Meet, Shortened, zeros}
use Rattle.inplace.specs.InPlace.{InPlace}
use Rattle.inplace.proofs.Reach.{Reach, empty-none, reach-none}
use Rattle.inplace.proofs.Tables.{row_first, row-place, highest-most}
use Rattle.inplace.proofs.Sides.{side-of}
use Rattle.inplace.proofs.Shapes.{two_none}
use Rattle.inplace.proofs.Parts.{Part, pair-first, pair-second, pair_left}
use Rattle.eq.proofs.EqLaws.{eq-narrowed}

module _ (T : List ℕ) (x y : ℕ) (fx : 64 * x + 64 ≤ length T) (fy : 64 * y + 64 ≤ length T) (ne : y ≢ x) (bd : Words T) where
  abbrev M : List ℕ
  M = met (row T x) (row T y)

  -- the lengths of both
  abbrev common : ℕ
  common = bit_and (word T (64 * x)) (word T (64 * y))

  M-first : word M 0 ≡ common
  M-first = met-word (row T x) (row T y) 0 (omega arith) ∙ ap₂ bit_and (row_first T x) (row_first T y)

  M-place : (i : ℕ) → i < 63 → word M (suc i) ≡ both T (64 * x) (64 * y) i
  M-place i h = met-word (row T x) (row T y) (suc i) (omega arith) ∙ ap₂ bit_and (row-place T x i h) (row-place T y i h)

  M-words : Words M
  M-words = met-words (row T x) (row T y) (row_words T bd x)

  M-narrowed : trimmed M ++ trimmed M ≡ narrowed (alone 2 0 []) (eq 0 1) (row T x ++ row T y)
  M-narrowed = eq-narrowed (row T x) (row T y) (row-length T x fx) (row-length T y fy) (row_words T bd x) (row_words T bd y)

  eq-nothing : (U : List ℕ) → length U ≡ length T → ((k : ℕ) → Out x k → Out y k → word U k ≡ word T k) → zeros ≡ trimmed M → InPlace [] (eq 0 1) (x ∷ y ∷ []) [] T U None
  eq-nothing U lU others e = two_none (eq 0 1) x y T U lU others (ap₂ (λ (r s : List ℕ). r ++ s) e e ∙ M-narrowed)

  pub eq-empty : common ≡ 0 → InPlace [] (eq 0 1) (x ∷ y ∷ []) [] T T None
  eq-empty e = eq-nothing T refl (λ k f g. refl) (empty-none M M-words (met-length (row T x) (row T y)) (M-first ∙ e))

  -- ---- after the places are met

  module _ (tx : Tidy (row T x)) (ty : Tidy (row T y)) (h m : ℕ) (T₁ : List ℕ) (cx cy : Bool) (high : Highest common h)
      (meet : Meet T (64 * x) (64 * y) h T₁ m cx cy) where
    small : m ≤ 63
    small =
        let a = high.small in
        let b = meet.small in
        omega arith

    reach : Reach M m
    reach =
        let s = small in
        let a = high.small in
        record {
          small = omega arith;
          filled = λ i l. subst (λ (w : ℕ). 0 < w) (sym (M-place i (omega arith))) (meet.done.filled i l);
          stop = λ n e l.
              let k = highest-most common h n high (ap (λ (w : ℕ). bit w n) (sym M-first) ∙ e) in
              M-place m (omega arith) ∙ meet.stop (omega arith);
        }

    outside : (k : ℕ) → Out x k → Out y k → word T₁ k ≡ word T k
    outside k f g =
        let s = small in
        meet.done.kept k (λ i l e. f (suc i) (omega arith) (omega arith)) (λ i l e. g (suc i) (omega arith) (omega arith))

    module _ (mask : ℕ) (em : mask ≡ 2 ^ (m + 1) - 1) where
      abbrev ls : ℕ
      ls = bit_and common mask

      is-short : ls ≡ short M m
      is-short = ap₂ bit_and (sym M-first) em

      pub eq-none : ls ≡ 0 → InPlace [] (eq 0 1) (x ∷ y ∷ []) [] T T₁ None
      eq-none e = eq-nothing T₁ meet.done.size outside (reach-none M m M-words reach (met-length (row T x) (row T y)) (sym is-short ∙ e))

      part-x : Part T x T₁ M m ls cx
      part-x =
          let s = small in
          let b = meet.small in
          let k = highest-most (word (row T x) 0) tx.top h tx.longest
          (ap (λ (w : ℕ). bit w h) (row_first T x) ∙ (of-and-bit (word T (64 * x)) (word T (64 * y)) h high.here).0) in
          record {
            fits = fx;
            tidy = tx;
            small = omega arith;
            side = side-of T T₁ M x m cx s fx meet.done.size (meet.done.kept (64 * x) (λ i l e. omega arith) (λ i l e. ne (omega arith)))
                (λ i l. meet.done.first i l ∙ sym (M-place i (omega arith)))
                (λ i k g. meet.done.kept (suc (64 * x + i)) (λ j l e. omega arith) (λ j l e. ne (omega arith))) meet.done.flag-a;
            words = M-words;
            long = met-length (row T x) (row T y);
            reach = reach;
            lengths = is-short;
            within = λ b e. (of-and-bit (word T (64 * x)) (word T (64 * y)) b (of-and-bit common mask b e).0).0;
          }

      part-y : Part T y T₁ M m ls cy
      part-y =
          let s = small in
          let b = meet.small in
          let k = highest-most (word (row T y) 0) ty.top h ty.longest
          (ap (λ (w : ℕ). bit w h) (row_first T y) ∙ (of-and-bit (word T (64 * x)) (word T (64 * y)) h high.here).1) in
          record {
            fits = fy;
            tidy = ty;
            small = omega arith;
            side = side-of T T₁ M y m cy s fy meet.done.size (meet.done.kept (64 * y) (λ i l e. ne (omega arith)) (λ i l e. omega arith))
                (λ i l. meet.done.second i l ∙ sym (M-place i (omega arith)))
                (λ i k g. meet.done.kept (suc (64 * y + i)) (λ j l e. ne (omega arith)) (λ j l e. omega arith)) meet.done.flag-b;
            words = M-words;
            long = met-length (row T x) (row T y);
            reach = reach;
            lengths = is-short;
            within = λ b e. (of-and-bit (word T (64 * x)) (word T (64 * y)) b (of-and-bit common mask b e).0).1;
          }

      -- what the two calls of `shorten` require, and what they leave
      pub eq-ready-x : ls ≢ 0 → Ready T₁ x ls
      eq-ready-x = pair-first (eq 0 1) T x y ne T₁ meet.done.size outside M M m m ls ls cx cy part-x part-y

      pub eq-ready-y : (T₂ : List ℕ) (p : Bool) → Shortened T₁ x ls T₂ p → ls ≢ 0 → Ready T₂ y ls
      eq-ready-y = pair-second (eq 0 1) T x y ne T₁ meet.done.size outside M M m m ls ls cx cy part-x part-y

      pub eq-some : (T₂ : List ℕ) (p : Bool) → Shortened T₁ x ls T₂ p → (U : List ℕ) (q : Bool) → Shortened T₂ y ls U q → (cx' cy' : Bool) → cx' ≡ (cx || p)
          → cy' ≡ (cy || q)
          → InPlace [] (eq 0 1) (x ∷ y ∷ []) [] T U (Some (record { x = cx'; y = cy'; z = false }))
      eq-some T₂ p sx = pair_left (eq 0 1) T x y ne T₁ meet.done.size outside M M m m ls ls cx cy part-x part-y T₂ p sx M-narrowed
