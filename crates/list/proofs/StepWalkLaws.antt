-- A walk over steps is a run of them. Assumes nothing.
use mathlib.Core.Path.{◌≡◌, refl, sym, ap, ◌∙◌}
use mathlib.Core.Bool.{true}
use mathlib.Core.List.{List, [], ◌∷◌}
use Prim.Native.Nat.{ℕ, ◌+◌, ◌≤◌, ◌<◌}
use native.Mathlib.Numerals.{add-one}
use lib.ListN.{length, get_or, take}
use lib.Seq.{take-suc, take_all}
use Rattle.model.specs.Constraints.{Problem, Constraint, always}
use Rattle.model.specs.Support.{narrowed}
use Rattle.model.specs.Rounds.{run}
use Rattle.laws.specs.Lent.{lendable}
use Rattle.laws.proofs.TableLaws.{below-of-eq, below_trans}
use Rattle.laws.proofs.RoundLaws.{run-below, run-append}
use Rattle.laws.proofs.CallLaws.{lendable-below}

module _ (P : Problem) where
  -- the first j of these steps make U of T
  pub record Walked (cs : List Constraint) (T : List ℕ) (j : ℕ) (U : List ℕ) : Type 0 where
    pub table : U ≡ run P (take j cs) T

  pub walk_start : (cs : List Constraint) (T : List ℕ) → Walked cs T 0 T
  unfolding run
  walk_start cs T = record { table = refl }

  pub walk_step : (cs : List Constraint) (T : List ℕ) (j : ℕ) (U W : List ℕ)
      → j < length cs → W ≡ narrowed P (get_or cs j (always 0)) U → Walked cs T j U → Walked cs T (j + 1) W
  unfolding run
  walk_step cs T j U W l s w = record {
    table = s ∙ ap (narrowed P (get_or cs j (always 0))) w.table ∙ sym (run-append P (take j cs) (get_or cs j (always 0) ∷ []) T)
        ∙ ap (λ (ds : List Constraint). run P ds T) (sym (take-suc cs j (always 0) l)) ∙ ap (λ (i : ℕ). run P (take i cs) T) (sym (add-one j));
  }

  pub walk-lent : (cs : List Constraint) (T : List ℕ) (j : ℕ) (U : List ℕ) → lendable P T ≡ true → Walked cs T j U → lendable P U ≡ true
  walk-lent cs T j U l w = lendable-below P U T (below_trans (below-of-eq w.table) (run-below P (take j cs) T)) l

  -- a walk over all of them is their run
  pub walk_ran : (cs : List Constraint) (T : List ℕ) (j : ℕ) (U : List ℕ) → length cs ≤ j → Walked cs T j U → U ≡ run P cs T
  walk_ran cs T j U l w = w.table ∙ ap (λ (ds : List Constraint). run P ds T) (take_all j cs l)
