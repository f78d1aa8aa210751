-- Neq by support: what is left of one side against the other, and the two sides as the narrowed table. Assumes nothing.
use mathlib.Core.Path.{◌≡◌, refl, sym, subst, ◌∙◌}
use mathlib.Core.Logic.{◌≢◌}
use mathlib.Core.Bool.{Bool, true, false, false≢true}
use mathlib.Core.List.{List, [], ◌++◌}
use Prim.Native.Nat.{ℕ}
use native.Mathlib.Omega.{arith}
use lib.ListN.{length, replicate}
use Rattle.model.specs.Lists.{any}
use Rattle.model.specs.Words.{several, Words}
use Rattle.model.specs.Constraints.{neq, differ, variables, meets}
use Rattle.model.specs.Solutions.{text_bit}
use Rattle.model.specs.Support.{narrowed}
use Rattle.rows.specs.Rows.{alone}
use Rattle.rows.proofs.TwoStrings.{Met, two-narrowed}
use Rattle.laws.specs.Supported.{InRow, Supports}
use Rattle.laws.proofs.WordLaws.{zero_bit}
use Rattle.laws.proofs.RowLaws.{length-used}
use Rattle.laws.proofs.NeqLaws.{differ_true, differ_false, differ_sym}
use Rattle.laws.proofs.Supports.{none-support, moved-support}
use Rattle.inplace.specs.InTable.{Tidy}
use Rattle.inplace.proofs.Parts.{tidy-supports}
use Rattle.neq.specs.Others.{Against}
use Rattle.neq.proofs.OneStringLaws.{only-string, two-strings}

-- ---- one side

-- y stands for several strings: each string of x differs from one of them
module _ (x y : List ℕ) (lx : length x ≡ 64) (ly : length y ≡ 64) (bx : Words x) (bY : Words y) (tx : Tidy x) (ty : Tidy y) where
  pub against-several : any several y ≡ true → Supports (Against x y) text_bit 64 x
  against-several m =
      let t = two-strings y y bY bY (tidy-supports y ty bY ly) m in
      moved-support (InRow x) (Against x y) text_bit text_bit 64 x
      (λ w k. (w, go t.0 t.1 t.2 t.3 t.4 w k (differ w t.0) refl, λ i h. refl))
      (λ w a. (w, a.in_row, λ i h. refl))
      (tidy-supports x tx bx lx)
    where
      go : (u₁ u₂ : List ℕ) → InRow y u₁ → InRow y u₂ → u₁ ≢ u₂ → (w : List ℕ) → InRow x w → (t : Bool) → differ w u₁ ≡ t → Against x y w
      go u₁ u₂ i₁ i₂ n w k true q = record { in_row = k; other = u₁; in_other = i₁; apart = q }
      go u₁ u₂ i₁ i₂ n w k false q = record { in_row = k; other = u₂; in_other = i₂; apart = differ_true w u₂ (λ c. n (sym (differ_false w u₁ q) ∙ c)) }

-- ---- the other side

turned : (x y w : List ℕ) (a : Against x y w) → Against y x a.other
turned x y w a = record { in_row = a.in_other; other = w; in_other = a.in_row; apart = differ_sym w a.other a.apart }

-- where something is left of x, the one string of y stays
pub other-stays : (x y : List ℕ) → length y ≡ 64 → Words y → Tidy y → any several y ≡ false → (r : List ℕ) → Tidy r → Supports (Against x y) text_bit 64 r
    → Supports (Against y x) text_bit 64 y
other-stays x y ly bY ty one r tr s =
    let own = tidy-supports y ty bY ly in
    let f = s.sound 0 tr.top (omega arith) tr.longest.here in
    moved-support (InRow y) (Against y x) text_bit text_bit 64 y
    (λ w k. (w, subst (Against y x) (only-string y y bY bY own one f.1.other w f.1.in_other k) (turned x y f.0 f.1), λ i h. refl))
    (λ w a. (w, a.in_row, λ i h. refl)) own

-- where nothing is left of x, nothing is left of y
pub none_other : (x y : List ℕ) → Supports (Against x y) text_bit 64 (replicate 64 0) → Supports (Against y x) text_bit 64 (replicate 64 0)
none_other x y s = none-support (Against y x) text_bit 64 (λ w a.
    let b = turned y x w a in
    false≢true (sym (zero_bit (length a.other)) ∙ s.complete 0 (length a.other) (omega arith) a.other b (length-used a.other)))

-- ---- both sides

pub neq-narrowed : (x y : List ℕ) → length x ≡ 64 → length y ≡ 64 → Words x → Words y → (rx ry : List ℕ)
    → Supports (Against x y) text_bit 64 rx → Supports (Against y x) text_bit 64 ry → rx ++ ry ≡ narrowed (alone 2 0 []) (neq 0 1) (x ++ y)
unfolding variables meets
neq-narrowed x y lx ly bx bY rx ry sx sy = two-narrowed (neq 0 1) differ refl (λ α. refl) x y lx ly bx bY rx ry
    (moved-support (Against x y) (Met differ x y) text_bit (λ p. text_bit p.first) 64 rx
    (λ w a. (record { first = w; second = a.other }, record { in_first = a.in_row; in_second = a.in_other; meeting = a.apart }, λ i h. refl))
    (λ p m. (p.first, record { in_row = m.in_first; other = p.second; in_other = m.in_second; apart = m.meeting }, λ i h. refl))
    sx)
    (moved-support (Against y x) (Met differ x y) text_bit (λ p. text_bit p.second) 64 ry
    (λ w a. (
      record { first = a.other; second = w },
      record { in_first = a.in_other; in_second = a.in_row; meeting = differ_sym w a.other a.apart },
      λ i h. refl,
    ))
    (λ p m. (
      p.second,
      record { in_row = m.in_second; other = p.first; in_other = m.in_first; apart = differ_sym p.first p.second m.meeting },
      λ i
          h. refl,
    ))
    sy)
