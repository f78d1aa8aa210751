-- Len in place: the lengths of the row and the values of the number become what both allow. Assumes nothing.
use Rattle.std.specs.Prelude.{Some, None}
use mathlib.Core.Path.{◌≡◌, refl, sym, ap, ap₂, ◌∙◌}
use mathlib.Core.Logic.{◌≢◌}
use mathlib.Core.Bool.{Bool, false, not}
use mathlib.Core.List.{List, [], ◌∷◌, ◌++◌}
use Prim.Native.Nat.{ℕ, ◌+◌, ◌*◌, ◌^◌, ◌≤◌, ◌<◌}
use native.Mathlib.Omega.{arith}
use lib.Bits.{bit_and}
use lib.Dec.{eqb}
use lib.ListN.{length, set, length-set}
use lib.Seq.{get_or-set_same, get_or-set_other}
use Rattle.model.specs.Words.{word, Words}
use Rattle.model.specs.Domains.{row}
use Rattle.model.specs.Constraints.{len}
use Rattle.model.specs.Support.{narrowed}
use Rattle.rows.specs.Rows.{alone, trimmed}
use Rattle.laws.specs.Inclusion.{Within}
use Rattle.laws.proofs.ShiftLaws.{of-and-bit}
use Rattle.laws.proofs.DomainLaws.{row-length, row_words}
use Rattle.inplace.specs.InTable.{Tidy, Ready, Shortened}
use Rattle.inplace.specs.InPlace.{InPlace}
use Rattle.inplace.proofs.Reach.{empty-none}
use Rattle.inplace.proofs.Tables.{row_first, same_row, only_out}
use Rattle.inplace.proofs.Shapes.{counted-left, counted_none}
use Rattle.inplace.proofs.Parts.{Part, fewer-length, fewer-first, fewer-words, part-lengths, part-ready, part-row, part-tidy, part-flag}
use Rattle.len.proofs.LenLaws.{len-narrowed}

module _ (T : List ℕ) (x i : ℕ) (fx : 64 * x + 64 ≤ i) (fi : i < length T) (bd : Words T) (bi : word T i < 2 ^ 64) where
  abbrev ls : ℕ
  ls = bit_and (word T (64 * x)) (word T i)

  within : Within ls (word T (64 * x))
  within b e = (of-and-bit (word T (64 * x)) (word T i) b e).0

  -- the row with the lengths that are values too
  abbrev M : List ℕ
  M = set (row T x) 0 ls

  M-narrowed : trimmed M ++ (word (trimmed M) 0 ∷ []) ≡ narrowed (alone 1 1 []) (len 0 0) (row T x ++ (word T i ∷ []))
  M-narrowed = ap (λ (w : ℕ). let r = trimmed (set (row T x) 0 (bit_and w (word T i))) in r ++ (word r 0 ∷ [])) (sym (row_first T x))
      ∙ len-narrowed (row T x) (word T i) (row-length T x (omega arith)) (row_words T bd x) bi

  module _ (tx : Tidy (row T x)) where
    pub len-none : ls ≡ 0 → InPlace [] (len 0 0) (x ∷ []) (i ∷ []) T T None
    len-none z = counted_none (len 0 0) x i T T refl (λ k f g. refl)
        (ap (λ (r : List ℕ). r ++ (word r 0 ∷ []))
        (empty-none M (fewer-words T x (omega arith) bd tx ls within) (fewer-length T x (omega arith) bd tx ls within)
        (fewer-first T x (omega arith) bd tx ls within ∙ z))
        ∙ M-narrowed)

    module _ (T₁ : List ℕ) (n : Bool) (put : (T₁ ≡ set T i ls) × (n ≡ not (eqb (word T i) ls))) where
      size₁ : length T₁ ≡ length T
      size₁ = ap length put.0 ∙ length-set T i ls

      other₁ : (k : ℕ) → k ≢ i → word T₁ k ≡ word T k
      other₁ k h = ap (λ (L : List ℕ). word L k) put.0 ∙ get_or-set_other T i k ls 0 h

      same₁ : row T₁ x ≡ row T x
      same₁ = same_row T x T₁ size₁ (omega arith) (λ j h. other₁ (64 * x + j) (omega arith))

      part : Part T x T₁ M tx.top ls false
      part = part-lengths T x (omega arith) bd tx ls within T₁ same₁

      pub len-ready : ls ≢ 0 → Ready T₁ x ls
      len-ready = part-ready T x T₁ M tx.top ls false part T₁ size₁ refl

      pub len-some : (U : List ℕ) (p : Bool) → Shortened T₁ x ls U p
          → InPlace [] (len 0 0) (x ∷ []) (i ∷ []) T U (Some (record { x = p; y = n; z = false }))
      len-some U p s =
          let number : word U i ≡ ls = s.only.after i fx ∙ ap (λ (L : List ℕ). word L i) put.0 ∙ get_or-set_same T i ls 0 fi in
          let e = part-row T x T₁ M tx.top ls false part T₁ size₁ refl U U p s refl in
          counted-left (len 0 0) x i T U (s.only.size ∙ size₁) (λ k f g. only_out T₁ x U s.only k f ∙ other₁ k g)
          (ap₂ (λ (r : List ℕ) (w : ℕ). r ++ (w ∷ [])) e (number ∙ sym s.cut.first ∙ ap (λ (r : List ℕ). word r 0) e) ∙ M-narrowed)
          (part-tidy T x T₁ M tx.top ls false part T₁ size₁ refl U U p s refl) p n
          (part-flag T x T₁ M tx.top ls false part T₁ size₁ refl U U p s refl)
          (put.1 ∙ ap (λ (w : ℕ). not (eqb (word T i) w)) (sym number))
