-- A row that has the support of choices of strings, at least one, is tidy; its lengths are those of a row that has the strings. Assumes nothing.
use mathlib.Core.Path.{◌≡◌, refl, sym, ap, subst, ◌∙◌}
use mathlib.Core.Bool.{Bool, true, false, ◌&&◌}
use mathlib.Core.List.{List}
use Prim.Native.Nat.{ℕ, suc, ◌-◌, ◌%◌, ◌^◌, ◌≤◌, ◌<◌}
use native.Mathlib.Nat.{mod-lt}
use native.Mathlib.Omega.{arith}
use lib.Count.{count_leading_zeros}
use lib.Dec.{ltb}
use lib.ListN.{length, get_or, get_or-eq_default}
use lib.Pow.{pow_pos}
use borrow.Author.Tests.{lt-ltb, ltb-true, ltb-false}
use Rattle.model.specs.Words.{bit, word, Words}
use Rattle.model.specs.Solutions.{text_bit}
use Rattle.words.specs.Ends.{Highest}
use Rattle.words.proofs.EndLaws.{highest_leading}
use Rattle.laws.specs.Supported.{InRow, Supports}
use Rattle.laws.proofs.WordLaws.{no_bits, word_ext}
use Rattle.laws.proofs.ShiftLaws.{bit-mod}
use Rattle.laws.proofs.RowLaws.{length-used, used-length, symbol-used, symbol-inside}
use Rattle.inplace.specs.InTable.{Tidy}
use Rattle.inplace.proofs.Tables.{highest-most, bit-some}

-- the strings are of row x
module _ {K : Type 0} (Ok : K → Type 0) (text : K → List ℕ) (r : List ℕ) (s : Supports Ok (λ v. text_bit (text v)) 64 r) (x : List ℕ) (bx : Words x)
    (inside : (v : K) → Ok v → InRow x (text v)) where
  -- a length of the one is a length of the other
  pub support-within : (b : ℕ) → bit (word r 0) b ≡ true → bit (word x 0) b ≡ true
  support-within b e =
      let t = s.sound 0 b (omega arith) e in
      ap (bit (word x 0)) (sym (used-length (text t.0) b t.2)) ∙ (inside t.0 t.1).length-bit

  small : word r 0 < 2 ^ 64
  small = subst (λ (w : ℕ). w < 2 ^ 64) (word_ext (word r 0 % 2 ^ 64) (word r 0) (λ b. bit-mod (word r 0) 64 b ∙ go b (bit (word r 0) b) refl))
      (mod-lt (word r 0) (pow_pos 64))
    where
      go : (b : ℕ) (d : Bool) → bit (word r 0) b ≡ d → (d && ltb b 64) ≡ d
      go b true e = lt-ltb b 64 (bx 0 b (support-within b e))
      go b false e = refl

  -- a length is left just where a choice is
  pub support-choice : 0 < word r 0 → (v : K) × Ok v
  support-choice h =
      let k = highest_leading (word r 0) h small in
      let t = s.sound 0 (63 - count_leading_zeros 64 (word r 0)) (omega arith) k.here in
      (t.0, t.1)

  support-some : (v : K) → Ok v → 0 < word r 0
  support-some v ok = bit-some (word r 0) (length (text v)) (s.complete 0 (length (text v)) (omega arith) v ok (length-used (text v)))

  tidy-at : (top : ℕ) → Highest (word r 0) top → Tidy r
  tidy-at top high =
      let t = s.sound 0 top (omega arith) high.here in
      let n = used-length (text t.0) top t.2 in
      let k = high.small in
      record {
        top = top;
        longest = high;
        filled = λ i l. bit-some (word r (suc i)) (get_or (text t.0) i 0)
            (s.complete (suc i) (get_or (text t.0) i 0) (omega arith) t.0 t.1 (symbol-used (text t.0) i (omega arith)));
        gone = λ i l. go i l (ltb i 63) refl;
      }
    where
      none : (i : ℕ) → top ≤ i → i < 63 → (b : ℕ) (d : Bool) → bit (word r (suc i)) b ≡ d → d ≡ false
      none i l h b true e =
          let t = s.sound (suc i) b (omega arith) e in
          let n = symbol-inside (text t.0) i b t.2 in
          let k = highest-most (word r 0) top (length (text t.0)) high
          (s.complete 0 (length (text t.0)) (omega arith) t.0 t.1 (length-used (text t.0))) in
          absurd (omega arith)
      none i l h b false e = refl

      go : (i : ℕ) → top ≤ i → (d : Bool) → ltb i 63 ≡ d → word r (suc i) ≡ 0
      go i l true q = no_bits (word r (suc i)) (λ b. none i l (ltb-true i 63 q) b (bit (word r (suc i)) b) refl)
      go i l false q = let h = ltb-false i 63 q in let n = s.count in get_or-eq_default r 0 (omega arith)

  pub support-tidy : (v : K) → Ok v → Tidy r
  support-tidy v ok = tidy-at (63 - count_leading_zeros 64 (word r 0)) (highest_leading (word r 0) (support-some v ok) small)
