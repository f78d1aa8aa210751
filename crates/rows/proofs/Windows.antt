-- Parts of the strings of a row, by support: a window of a row that supports some strings supports their beginnings, or what is left of them.
-- Assumes nothing.
use mathlib.Core.Path.{◌≡◌, refl, sym, ap, subst, ◌∙◌}
use mathlib.Core.Bool.{Bool, true, false, false≢true}
use mathlib.Core.List.{List}
use Prim.Native.Nat.{ℕ, zero, suc, ◌+◌, ◌-◌, ◌/◌, ◌^◌, ◌≤◌, ◌<◌}
use native.Mathlib.Omega.{arith}
use lib.Dec.{ltb}
use lib.ListN.{length, get_or, take, drop, length-drop}
use lib.Seq.{get_or-take, get_or-drop, length-take-le}
use borrow.Author.Tests.{ltb-true, ltb-false}
use Rattle.model.specs.Words.{bit, word}
use Rattle.model.specs.Solutions.{text_bit}
use Rattle.rows.specs.Parts.{Window}
use Rattle.laws.specs.Supported.{Supports}
use Rattle.laws.proofs.WordLaws.{zero_bit, pow_self, pow-only}
use Rattle.laws.proofs.ShiftLaws.{bit-shr}
use Rattle.laws.proofs.RowLaws.{length-used, symbol-used, symbol-inside, used-symbol, used-length}

-- a string with this symbol at index j uses that bit
pub uses-symbol : (w : List ℕ) (j b : ℕ) → j < length w → get_or w j 0 ≡ b → bit (text_bit w (suc j)) b ≡ true
uses-symbol w j b h e = subst (λ (a : ℕ). bit (text_bit w (suc j)) a ≡ true) e (symbol-used w j h)

pub uses-length : (w : List ℕ) (b : ℕ) → length w ≡ b → bit (text_bit w 0) b ≡ true
uses-length w b e = subst (λ (n : ℕ). bit (text_bit w 0) n ≡ true) e (length-used w)

no-bit : (b : ℕ) {A : Type 0} → bit 0 b ≡ true → A
no-bit b e = absurd (false≢true (sym (zero_bit b) ∙ e))

module _ {K : Type 0} (Ok : K → Type 0) (m : K → List ℕ) (t : List ℕ) (s : Supports Ok (λ v. text_bit (m v)) 64 t) (p : ℕ) (small : p < 64) (long : (v : K) → Ok v → p ≤ length (m v)) where
  -- the beginnings of p symbols
  module _ (v₀ : K) (ok₀ : Ok v₀) (r : List ℕ) (win : Window t (2 ^ p) 0 p r) where
    take-length : (v : K) → Ok v → length (take p (m v)) ≡ p
    take-length v ok = length-take-le p (m v) (long v ok)

    take-kept : (j : ℕ) → j < p → word r (suc j) ≡ word t (suc j)
    take-kept j l = let q : 0 + j ≡ j = omega arith in win.kept j l ∙ ap (λ (i : ℕ). word t (suc i)) q

    take-sound : (i b : ℕ) → i < 64 → bit (word r i) b ≡ true → (v : K) × Ok v × (bit (text_bit (take p (m v)) i) b ≡ true)
    take-sound zero b h e =
        let q : b ≡ p = pow-only p b (ap (λ (w : ℕ). bit w b) (sym win.first) ∙ e) in
        (v₀, ok₀, uses-length (take p (m v₀)) b (take-length v₀ ok₀ ∙ sym q))
    take-sound (suc j) b h e = go (ltb j p) refl
      where
        go : (c : Bool) → ltb j p ≡ c → (v : K) × Ok v × (bit (text_bit (take p (m v)) (suc j)) b ≡ true)
        go true q =
            let l = ltb-true j p q in
            let u = s.sound (suc j) b h (ap (λ (w : ℕ). bit w b) (sym (take-kept j l)) ∙ e) in
            let k = take-length u.0 u.1 in
            (u.0, u.1, uses-symbol (take p (m u.0)) j b (omega arith) (get_or-take p (m u.0) j 0 l ∙ used-symbol (m u.0) j b u.2))
        go false q = no-bit b (ap (λ (w : ℕ). bit w b) (sym (win.gone j (ltb-false j p q))) ∙ e)

    take-complete : (i b : ℕ) → i < 64 → (v : K) → Ok v → bit (text_bit (take p (m v)) i) b ≡ true → bit (word r i) b ≡ true
    take-complete zero b h v ok e =
        let q : p ≡ b = sym (take-length v ok) ∙ used-length (take p (m v)) b e in
        ap (λ (w : ℕ). bit w b) win.first ∙ subst (λ (n : ℕ). bit (2 ^ p) n ≡ true) q (pow_self p)
    take-complete (suc j) b h v ok e =
        let l = symbol-inside (take p (m v)) j b e in
        let k = take-length v ok in
        let a = long v ok in
        let jp : j < p = omega arith in
        ap (λ (w : ℕ). bit w b) (take-kept j jp) ∙ s.complete (suc j) b h v ok (uses-symbol (m v) j b (omega arith) (sym (get_or-take p (m v) j 0 jp) ∙ used-symbol (take p (m v)) j b e))

    pub take-supports : Supports Ok (λ v. text_bit (take p (m v))) 64 r
    take-supports = record { count = win.size; sound = take-sound; complete = take-complete }

  -- what is left after p symbols
  module _ (short : (v : K) → Ok v → length (m v) < 64) (r : List ℕ) (win : Window t (word t 0 / 2 ^ p) p (63 - p) r) where
    drop-sound : (i b : ℕ) → i < 64 → bit (word r i) b ≡ true → (v : K) × Ok v × (bit (text_bit (drop p (m v)) i) b ≡ true)
    drop-sound zero b h e =
        let u = s.sound 0 (p + b) h (sym (bit-shr (word t 0) p b) ∙ ap (λ (w : ℕ). bit w b) (sym win.first) ∙ e) in
        let q = used-length (m u.0) (p + b) u.2 in
        (u.0, u.1, uses-length (drop p (m u.0)) b (omega (arith, length-drop p (m u.0))))
    drop-sound (suc j) b h e = go (ltb j (63 - p)) refl
      where
        go : (c : Bool) → ltb j (63 - p) ≡ c → (v : K) × Ok v × (bit (text_bit (drop p (m v)) (suc j)) b ≡ true)
        go true q =
            let l = ltb-true j (63 - p) q in
            let u = s.sound (suc (p + j)) b (omega arith) (ap (λ (w : ℕ). bit w b) (sym (win.kept j l)) ∙ e) in
            let k = symbol-inside (m u.0) (p + j) b u.2 in
            (u.0, u.1, uses-symbol (drop p (m u.0)) j b (omega (arith, length-drop p (m u.0))) (get_or-drop p (m u.0) j 0 ∙ used-symbol (m u.0) (p + j) b u.2))
        go false q = no-bit b (ap (λ (w : ℕ). bit w b) (sym (win.gone j (ltb-false j (63 - p) q))) ∙ e)

    drop-complete : (i b : ℕ) → i < 64 → (v : K) → Ok v → bit (text_bit (drop p (m v)) i) b ≡ true → bit (word r i) b ≡ true
    drop-complete zero b h v ok e =
        let q = used-length (drop p (m v)) b e in
        let k = long v ok in
        ap (λ (w : ℕ). bit w b) win.first ∙ bit-shr (word t 0) p b ∙ s.complete 0 (p + b) h v ok (uses-length (m v) (p + b) (omega (arith, length-drop p (m v))))
    drop-complete (suc j) b h v ok e =
        let l = symbol-inside (drop p (m v)) j b e in
        let k = short v ok in
        let d = length-drop p (m v) in
        let jp : j < 63 - p = omega arith in
        ap (λ (w : ℕ). bit w b) (win.kept j jp)
        ∙ s.complete (suc (p + j)) b (omega arith) v ok (uses-symbol (m v) (p + j) b (omega arith) (sym (get_or-drop p (m v) j 0) ∙ used-symbol (drop p (m v)) j b e))

    pub drop-supports : Supports Ok (λ v. text_bit (drop p (m v))) 64 r
    drop-supports = record { count = win.size; sound = drop-sound; complete = drop-complete }
