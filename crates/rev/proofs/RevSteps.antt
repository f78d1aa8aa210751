-- Rev in place: where nothing is left, and what is left where there are several lengths. Assumes nothing.
use Rattle.std.specs.Prelude.{Some, None}
use mathlib.Core.Path.{◌≡◌, refl, sym, ap, ap₂, subst, ◌∙◌}
use mathlib.Core.Logic.{◌≢◌}
use mathlib.Core.Bool.{Bool, true, false, false≢true}
use mathlib.Core.List.{List, [], ◌∷◌, ◌++◌, reverse, reverse-reverse}
use Prim.Native.Nat.{ℕ, ◌+◌, ◌*◌, ◌≤◌}
use native.Mathlib.Omega.{arith}
use lib.Bits.{bit_and}
use lib.ListN.{length, length-reverse}
use Rattle.model.specs.Words.{bit, word, Words}
use Rattle.model.specs.Domains.{row}
use Rattle.model.specs.Constraints.{rev}
use Rattle.model.specs.Solutions.{text_bit}
use Rattle.model.specs.Support.{narrowed}
use Rattle.rows.specs.Rows.{alone}
use Rattle.rows.proofs.ChoiceLaws.{no-choice}
use Rattle.laws.specs.Supported.{InRow, Supports}
use Rattle.laws.proofs.DomainLaws.{row-length, row_words}
use Rattle.laws.proofs.WordLaws.{zero_bit}
use Rattle.laws.proofs.ShiftLaws.{and-bit, of-and-bit}
use Rattle.laws.proofs.Supports.{none-support}
use Rattle.inplace.specs.InTable.{Tidy, Out, Flag, zeros}
use Rattle.inplace.specs.InPlace.{InPlace}
use Rattle.inplace.specs.Written.{Replacing, Replaced}
use Rattle.inplace.proofs.Tables.{row_first, only-other, only_out}
use Rattle.inplace.proofs.Shapes.{two-left, two_none}
use Rattle.inplace.proofs.Supported.{support-within, support-choice, support-tidy}
use Rattle.inplace.proofs.Replacing.{replacing_one, replaced-one}
use Rattle.rev.specs.Turned.{Mirrored, Common, Pair}
use Rattle.rev.proofs.RevLaws.{rev-narrowed}

-- the lengths of both, as the code has them
common-lengths : (T : List ℕ) (x y : ℕ) → Common T x y (bit_and (word T (64 * x)) (word T (64 * y)))
common-lengths T x y = record {
  first = λ n e. (of-and-bit (word T (64 * x)) (word T (64 * y)) n e).0;
  second = λ n e. (of-and-bit (word T (64 * x)) (word T (64 * y)) n e).1;
  all = λ n p q. and-bit (word T (64 * x)) (word T (64 * y)) n p q;
}

pub pair_of : (T : List ℕ) (x y : ℕ) → (64 * x + 64 ≤ length T) × (64 * y + 64 ≤ length T) × (y ≢ x) × Tidy (row T x) × Tidy (row T y)
    → bit_and (word T (64 * x)) (word T (64 * y)) ≢ 0 → Pair T x y (bit_and (word T (64 * x)) (word T (64 * y)))
pair_of T x y p n = record { fits-x = p.0; fits-y = p.1; apart = p.2; tidy-x = p.3; tidy-y = p.4; lengths = common-lengths T x y; some = omega arith }

pub common_swap : (T : List ℕ) (x y ls : ℕ) → Common T x y ls → Common T y x ls
common_swap T x y ls c = record { first = c.second; second = c.first; all = λ n p q. c.all n q p }

-- ---- where there is nothing on one side, there is nothing on the other

mirror : (x y u : List ℕ) → Mirrored x y 0 u → Mirrored y x 0 (reverse u)
mirror x y u m = record { own = m.other; other = subst (InRow x) (sym (reverse-reverse u)) m.own; done = zero_bit (length (reverse u)) }

module _ (T : List ℕ) (x y : ℕ) (fx : 64 * x + 64 ≤ length T) (fy : 64 * y + 64 ≤ length T) (bd : Words T) where
  pub rev-rows : (rx ry : List ℕ) → Supports (Mirrored (row T x) (row T y) 0) text_bit 64 rx → Supports (Mirrored (row T y) (row T x) 0) text_bit 64 ry
      → rx ++ ry ≡ narrowed (alone 2 0 []) (rev 0 1) (row T x ++ row T y)
  rev-rows = rev-narrowed (row T x) (row T y) (row-length T x fx) (row-length T y fy) (row_words T bd x) (row_words T bd y)

  pub rev-nothing : ((u : List ℕ) → Mirrored (row T x) (row T y) 0 u → ⊥) → (U : List ℕ) → length U ≡ length T
      → ((k : ℕ) → Out x k → Out y k → word U k ≡ word T k)
      → InPlace [] (rev 0 1) (x ∷ y ∷ []) [] T U None
  rev-nothing never U size others = two_none (rev 0 1) x y T U size others (rev-rows zeros zeros
      (none-support (Mirrored (row T x) (row T y) 0) text_bit 64 never)
      (none-support (Mirrored (row T y) (row T x) 0) text_bit 64 (λ u m. never (reverse u) (mirror (row T y) (row T x) u m))))

  pub rev-empty : bit_and (word T (64 * x)) (word T (64 * y)) ≡ 0 → InPlace [] (rev 0 1) (x ∷ y ∷ []) [] T T None
  rev-empty e = rev-nothing (λ u m.
      let n : ℕ = length u in
      false≢true (sym (zero_bit n) ∙ ap (λ (w : ℕ). bit w n) (sym e) ∙ and-bit (word T (64 * x)) (word T (64 * y)) n
      (ap (λ (w : ℕ). bit w n) (sym (row_first T x)) ∙ m.own.length-bit)
      (ap (λ (w : ℕ). bit w n) (sym (row_first T y)) ∙ subst (λ (k : ℕ). bit (word (row T y) 0) k ≡ true) (length-reverse u) m.other.length-bit))) T refl
      (λ k f g. refl)

module _ (T : List ℕ) (x y ls : ℕ) (pair : Pair T x y ls) (bd : Words T) where
  abbrev fx : 64 * x + 64 ≤ length T
  fx = pair.fits-x

  abbrev fy : 64 * y + 64 ≤ length T
  fy = pair.fits-y

  -- ---- several lengths

  module _ (rx : List ℕ) (sx : Supports (Mirrored (row T x) (row T y) 0) text_bit 64 rx) where
    pub rev-none : word rx 0 ≡ 0 → InPlace [] (rev 0 1) (x ∷ y ∷ []) [] T T None
    rev-none z = rev-nothing T x y fx fy bd (no-choice (Mirrored (row T x) (row T y) 0) (λ u. u) rx sx z) T refl (λ k f g. refl)

    module _ (some : word rx 0 ≢ 0) (ry : List ℕ) (sy : Supports (Mirrored (row T y) (row T x) 0) text_bit 64 ry) where
      choice : (u : List ℕ) × Mirrored (row T x) (row T y) 0 u
      choice = support-choice (Mirrored (row T x) (row T y) 0) (λ u. u) rx sx (row T x) (row_words T bd x) (λ u m. m.own) (omega arith)

      tidy-x : Tidy rx
      tidy-x = support-tidy (Mirrored (row T x) (row T y) 0) (λ u. u) rx sx (row T x) (row_words T bd x) (λ u m. m.own) choice.0 choice.1

      -- the other side has a string too
      tidy-y : Tidy ry
      tidy-y = support-tidy (Mirrored (row T y) (row T x) 0) (λ u. u) ry sy (row T y) (row_words T bd y) (λ u m. m.own) (reverse choice.0)
          (mirror (row T x) (row T y) choice.0 choice.1)

      pub any-first : Replacing T x rx 0
      any-first = replacing_one T x rx fx pair.tidy-x sx.count tidy-x
          (support-within (Mirrored (row T x) (row T y) 0) (λ u. u) rx sx (row T x) (row_words T bd x) (λ u m. m.own))

      module _ (T₁ : List ℕ) (cx : Bool) (p : Replaced T x (row rx 0) T₁ cx) where
        same-y : row T₁ y ≡ row T y
        same-y = only-other T x T₁ p.only y fy pair.apart

        pub any-second : Replacing T₁ y ry 0
        any-second =
            let s = p.only.size in
            let f = pair.fits-y in
            replacing_one T₁ y ry (omega arith) (subst Tidy (sym same-y) pair.tidy-y) sy.count tidy-y
            (λ b e. ap (λ (u : List ℕ). bit (word u 0) b) same-y
            ∙ support-within (Mirrored (row T y) (row T x) 0) (λ u. u) ry sy (row T y) (row_words T bd y) (λ u m. m.own) b e)

        pub any_left : (U : List ℕ) (cy : Bool) → Replaced T₁ y (row ry 0) U cy
            → InPlace [] (rev 0 1) (x ∷ y ∷ []) [] T U (Some (record { x = cx; y = cy; z = false }))
        any_left U cy q =
            let s = p.only.size in
            let f = pair.fits-x in
            let later : row U x ≡ row T₁ x = only-other T₁ y U q.only x (omega arith) (λ d. pair.apart (sym d)) in
            let ex : row U x ≡ rx = later ∙ replaced-one T x rx T₁ cx sx.count p in
            let ey : row U y ≡ ry = replaced-one T₁ y ry U cy sy.count q in
            two-left (rev 0 1) x y T U (q.only.size ∙ s)
            (λ k f g. only_out T₁ y U q.only k g ∙ only_out T x T₁ p.only k f)
            (ap₂ (λ (r s : List ℕ). r ++ s) ex ey ∙ rev-rows T x y fx fy bd rx ry sx sy)
            (subst Tidy (sym ex) tidy-x) (subst Tidy (sym ey) tidy-y) cx cy
            (subst (λ (u : List ℕ). Flag (row T x) u cx) (sym later) p.flag) (subst (λ (u : List ℕ). Flag u (row U y) cy) same-y q.flag)
