-- Eq by support: the pairs of equal strings are the strings of the meet. Assumes nothing.
use mathlib.Core.Path.{◌≡◌, refl, sym, ap, subst, ◌∙◌}
use mathlib.Core.List.{List, [], ◌++◌}
use Prim.Native.Nat.{ℕ}
use lib.ListN.{length}
use Rattle.model.specs.Lists.{same}
use Rattle.model.specs.Words.{Words}
use Rattle.model.specs.Constraints.{eq, variables, meets}
use Rattle.model.specs.Solutions.{text_bit}
use Rattle.model.specs.Support.{narrowed}
use Rattle.rows.specs.Rows.{alone, trimmed, met}
use Rattle.rows.proofs.TrimLaws.{trimmed-supports}
use Rattle.rows.proofs.MeetLaws.{met-length, met-words, in_met, of-met}
use Rattle.rows.proofs.TwoStrings.{Two, Met, two-narrowed}
use Rattle.laws.specs.Supported.{InRow, Supports}
use Rattle.laws.proofs.ListLaws.{same_true, same_refl}
use Rattle.laws.proofs.RowLaws.{short-of}
use Rattle.laws.proofs.Supports.{moved-support}

module _ (x y : List ℕ) (lx : length x ≡ 64) (ly : length y ≡ 64) (bx : Words x) (bY : Words y) where
  -- on either side
  side : (pick : Two → List ℕ) → ((w : List ℕ) → pick (record { first = w; second = w }) ≡ w)
      → Supports (Met same x y) (λ p. text_bit (pick p)) 64 (trimmed (met x y))
  side pick e = moved-support (InRow (met x y)) (Met same x y) text_bit (λ p. text_bit (pick p)) 64 (trimmed (met x y))
      (λ w i. let t = of-met x y w i in (
        record { first = w; second = w },
        record { in_first = t.0; in_second = t.1; meeting = same_refl w },
        λ j h. ap (λ (u : List ℕ). text_bit u j)
            (sym (e w)),
      ))
      (λ p m.
      let q : p.first ≡ p.second = same_true p.first p.second m.meeting in
      let i : InRow y p.first = subst (InRow y) (sym q) m.in_second in
      let d : p ≡ record { first = p.first; second = p.first } = ap (λ (v : List ℕ). record { first = p.first; second = v }) (sym q) in (
        p.first,
        in_met x y p.first (short-of x bx p.first m.in_first) m.in_first i,
        λ j h. ap (λ (u : List ℕ). text_bit u j)
            (sym (ap pick d ∙ e p.first)),
      ))
      (trimmed-supports (met x y) (met-length x y) (met-words x y bx))

  pub eq-narrowed : trimmed (met x y) ++ trimmed (met x y) ≡ narrowed (alone 2 0 []) (eq 0 1) (x ++ y)
  unfolding variables meets
  eq-narrowed = two-narrowed (eq 0 1) same refl (λ α. refl) x y lx ly bx bY (trimmed (met x y)) (trimmed (met x y)) (side (λ p. p.first) (λ w. refl))
      (side (λ p. p.second) (λ w. refl))
