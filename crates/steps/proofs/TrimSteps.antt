-- Trimming a string of any table: made tidy in place, or struck whole where it has no value; and the bits that this strikes. Assumes nothing.
use mathlib.Core.Path.{◌≡◌, refl, sym, ap, subst, ◌∙◌}
use mathlib.Core.Bool.{Bool, false}
use mathlib.Core.List.Memᴰ
use mathlib.Core.List.{List, [], ◌∷◌}
use Prim.Native.Nat.{ℕ, ◌+◌, ◌-◌, ◌*◌, ◌≤◌, ◌<◌}
use native.Mathlib.Omega.{arith}
use lib.ListN.{length, get_or-replicate}
use lib.Seq.{ext_get_or}
use Rattle.model.specs.Words.{word, size}
use Rattle.model.specs.Domains.{row}
use Rattle.model.specs.Constraints.{Problem, width, always}
use Rattle.laws.specs.Inclusion.{Below}
use Rattle.laws.proofs.TableLaws.{size_le, struck-size}
use Rattle.laws.proofs.DomainLaws.{row-length, row_word}
use Rattle.laws.proofs.SupportLaws.{narrowed-below}
use Rattle.model.specs.Support.{narrowed}
use Rattle.rows.specs.Rows.{alone, trimmed, stored}
use Rattle.rows.proofs.TrimLaws.{trimmed-length}
use Rattle.rows.proofs.StoreLaws.{row-stored}
use Rattle.inplace.proofs.Tidied.{trim-placed}
use Rattle.inplace.specs.InTable.{Only, Trimmed, zeros}
use Rattle.inplace.proofs.Tables.{only-stored}
use Rattle.steps.specs.Step.{Step}
use Rattle.steps.specs.Names.{Blanked}
use Rattle.steps.proofs.SizeLaws.{stored-size}

trimmed-below : (r : List ℕ) → Below (trimmed r) r
unfolding trimmed
trimmed-below r = narrowed-below (alone 1 0 []) (always 0) r

module _ (T : List ℕ) (x : ℕ) (f : 64 * x + 64 ≤ length T) where
  -- the string has no value, and was struck whole
  pub trim_blanked : (U : List ℕ) (some : Bool) → Trimmed T x U some → some ≡ false → (W : List ℕ) → Blanked (x ∷ []) [] U W → W ≡ stored T x (trimmed (row T x))
  trim_blanked U some t q W b =
      let u : U ≡ T = (t.nothing q).0 in
      let k = ap length u in
      let s = b.size in
      let lW : length (row W x) ≡ 64 = row-length W x (omega arith) in
      let is : row W x ≡ zeros = ext_get_or 0 (row W x) zeros lW (λ j h. let i : j < 64 = omega arith in
      row_word W x j i ∙ b.rows x (Memᴰ.head refl) j i ∙ sym (get_or-replicate 64 j 0 0 (omega arith))) in
      let only : Only T x W = record {
        size = s ∙ k;
        before = λ i h. b.others i (λ y m j l d. elim m [ Memᴰ.head p ↦ omega arith | Memᴰ.tail g ↦ elim g [ ] ]) (λ j m. elim m [ ]) ∙ ap (λ (S : List ℕ). word S i) u;
        after = λ i h. b.others i (λ y m j l d. elim m [ Memᴰ.head p ↦ omega arith | Memᴰ.tail g ↦ elim g [ ] ]) (λ j m. elim m [ ]) ∙ ap (λ (S : List ℕ). word S i) u;
      } in
      only-stored T x W f only ∙ ap (stored T x) (is ∙ (t.nothing q).1)

  -- a table with the trimmed row
  module _ (U : List ℕ) (e : U ≡ stored T x (trimmed (row T x))) where
    trimmed-size : size (row U x) ≡ size (trimmed (row T x))
    trimmed-size = ap size (ap (λ (W : List ℕ). row W x) e ∙ row-stored T x (trimmed (row T x)) f (trimmed-length (row T x) ∙ row-length T x f))

    pub trim-fewer : size (row U x) ≤ size (row T x)
    trim-fewer = let r = trimmed-size in let s = size_le (trimmed (row T x)) (row T x) (trimmed-below (row T x)) in omega arith

    pub trim-counted : (n : ℕ) → n ≡ size (row T x) - size (row U x) → (P : Problem) → length T ≡ width P → x < P.strings → Step P (always x) T U n
    trim-counted n q P ln h =
        let is : U ≡ narrowed P (always x) T = e ∙ trim-placed P x h T ln in
        let a = stored-size T x (trimmed (row T x)) in
        let b = ap size (sym e) in
        let r = trimmed-size in
        let s = trim-fewer in
        let z = struck-size T U (subst (λ (W : List ℕ). Below W T) (sym is) (narrowed-below P (always x) T)) in
        record { table = is; count = omega arith }
