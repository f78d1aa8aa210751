-- Whether a choice counts at all, by the length word of a row that has the support of the choices. Assumes nothing.
use mathlib.Core.Path.{◌≡◌, sym, ap, ◌∙◌}
use mathlib.Core.Bool.{false≢true}
use mathlib.Core.List.{List}
use Prim.Native.Nat.{ℕ, ◌<◌}
use native.Mathlib.Omega.{arith}
use lib.ListN.{length, get_or}
use Rattle.model.specs.Words.{bit, bits, word, Words}
use Rattle.model.specs.Solutions.{text_bit}
use Rattle.rows.proofs.TrimLaws.{some-bit}
use Rattle.laws.specs.Supported.{Supports}
use Rattle.laws.proofs.WordLaws.{zero_bit}
use Rattle.laws.proofs.RowLaws.{length-used}

module _ {K : Type 0} (Ok : K → Type 0) (text : K → List ℕ) (r : List ℕ) (s : Supports Ok (λ v. text_bit (text v)) 64 r) where
  -- a length is left: some choice counts
  pub some-choice : Words r → 0 < word r 0 → (v : K) × Ok v
  some-choice bd h =
      let t = s.sound 0 (get_or (bits (word r 0)) 0 0) (omega arith) (some-bit (word r 0) (bd 0) h) in
      (t.0, t.1)

  -- no length is left: none counts
  pub no-choice : word r 0 ≡ 0 → (v : K) → Ok v → ⊥
  no-choice z v ok = false≢true (sym (zero_bit (length (text v))) ∙ ap (λ (w : ℕ). bit w (length (text v))) (sym z) ∙ s.complete 0 (length (text v)) (omega arith) v ok (length-used (text v)))
