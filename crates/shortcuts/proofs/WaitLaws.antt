-- The steps of a problem, and steps that wait: a turn takes one of them, and those that name a variable of which it changed a word wait again. What does
-- not wait strikes nothing, before the turn and after it. Assumes nothing.
use mathlib.Core.Path.{◌≡◌, refl, sym, ap, subst}
use mathlib.Core.Logic.{◌≢◌, ⊎_elim}
use mathlib.Core.Bool.{Bool, true, false}
use mathlib.Core.List.Memᴰ
use mathlib.Core.List.{List, map}
use Prim.Native.Nat.{ℕ, ◌<◌}
use lib.Dec.{eqb}
use lib.ListN.{length, get_or}
use borrow.Author.Tests.{eqb-true, eqb-false}
use Rattle.model.specs.Lists.{upto}
use Rattle.model.specs.Constraints.{Problem, Constraint, always, variables, width}
use Rattle.model.specs.Solutions.{InRange, WellFormed}
use Rattle.model.specs.Support.{narrowed}
use Rattle.model.specs.Rounds.{steps}
use Rattle.laws.specs.Inclusion.{In, Below}
use Rattle.laws.specs.Lent.{Stable}
use Rattle.laws.proofs.ListLaws.{of-upto, in_upto, get_or_in}
use Rattle.laws.proofs.TableLaws.{below_trans, below-of-eq}
use Rattle.laws.proofs.SupportLaws.{narrowed-length, narrowed-mono, narrowed-again}
use Rattle.shortcuts.specs.Waiting.{Apart, Resting}
use Rattle.shortcuts.proofs.LocalLaws.{Ranged, narrowed_local}

-- ---- the steps of a problem

pub in_trims : (P : Problem) (x : ℕ) → x < P.strings → In (always x) (steps P)
unfolding steps
in_trims P x h = Memᴰ.append_left P.constraints (Memᴰ.map always (in_upto P.strings x h))

pub in_constraints : (P : Problem) (c : Constraint) → In c P.constraints → In c (steps P)
unfolding steps
in_constraints P c m = Memᴰ.append_right (map always (upto P.strings)) m

-- a fact about every trimming and every constraint is one about every step
pub by-step : (P : Problem) (C : Constraint → Type 0) → ((x : ℕ) → x < P.strings → C (always x)) → ((c : Constraint) → In c P.constraints → C c) → (c : Constraint) → In c (steps P) → C c
unfolding steps
by-step P C f g c m = ⊎_elim
    (λ k. let t = Memᴰ.of_map always _ k in subst C t.2 (f t.0 (of-upto P.strings t.1)))
    (λ k. g c k)
    (Memᴰ.append_cases (map always (upto P.strings)) m)

pub ranged-trim : (P : Problem) (x : ℕ) → x < P.strings → Ranged P (always x)
unfolding variables
ranged-trim P x h v (Memᴰ.tail x5) = elim x5 [ ]
ranged-trim P x h v (Memᴰ.head e) = subst (InRange P) (sym e) h

pub ranged-step : (P : Problem) → WellFormed P → (c : Constraint) → In c (steps P) → Ranged P c
ranged-step P wf = by-step P (Ranged P) (ranged-trim P) (λ c m. wf c m)

-- ---- any run of waiting steps

-- what does not wait after step j did not wait before it, and names no variable with a word that step j changed
pub record Wakes (P : Problem) (cs : List Constraint) (j : ℕ) (waits waits' : ℕ → Bool) (U : List ℕ) : Type 0 where
  pub rested : (d : ℕ) → d < length cs → d ≢ j → waits' d ≡ false → waits d ≡ false
  pub apart : (d : ℕ) → d < length cs → d ≢ j → waits' d ≡ false → Apart P (get_or cs d (always 0)) U (narrowed P (get_or cs j (always 0)) U)

module _ (P : Problem) (cs : List Constraint) (rg : (c : Constraint) → In c cs → Ranged P c) (U : List ℕ) (ln : length U ≡ width P) where
  pub resting-turn : (j : ℕ) → j < length cs → {waits waits' : ℕ → Bool} → Resting P cs waits U → Wakes P cs j waits waits' U → Resting P cs waits' (narrowed P (get_or cs j (always 0)) U)
  resting-turn j l {waits} {waits'} r w = record { rests = λ d h q. go d h q (eqb d j) refl }
    where
      c : Constraint
      c = get_or cs j (always 0)

      go : (d : ℕ) → d < length cs → waits' d ≡ false → (t : Bool) → eqb d j ≡ t → narrowed P (get_or cs d (always 0)) (narrowed P c U) ≡ narrowed P c U
      go d h q true p =
          let e : get_or cs d (always 0) ≡ c = ap (λ (i : ℕ). get_or cs i (always 0)) (eqb-true d j p) in
          subst (λ (b : Constraint). narrowed P b (narrowed P c U) ≡ narrowed P c U) (sym e) (narrowed-again P c U ln (rg c (get_or_in cs j (always 0) l)))
      go d h q false p =
          let ne = eqb-false d j p in
          narrowed_local P (get_or cs d (always 0)) (rg _ (get_or_in cs d (always 0) h)) U (narrowed P c U) (sym (narrowed-length P c U)) (w.apart d h ne q) (r.rests d h (w.rested d h ne q))

module _ (P : Problem) where
  -- a stable table below the start is below what a step leaves
  pub above_step : (Z U : List ℕ) (c : Constraint) → In c (steps P) → Stable P Z → Below Z U → Below Z (narrowed P c U)
  above_step Z U c m s p = below_trans (below-of-eq (sym (s c m))) (narrowed-mono P c p)
