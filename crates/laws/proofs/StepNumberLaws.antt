-- The steps of a problem by their numbers. Assumes nothing.
use mathlib.Core.Path.{◌≡◌, refl}
use mathlib.Core.Logic.{⊎_elim}
use mathlib.Core.Bool.{Bool, true, false, cond}
use mathlib.Core.List.Memᴰ
use mathlib.Core.List.{◌++◌, map}
use Prim.Native.Nat.{ℕ, ◌+◌, ◌-◌, ◌<◌}
use native.Mathlib.Omega.{arith}
use lib.Dec.{ltb}
use lib.ListN.{length, get_or}
use borrow.Author.Tests.{ltb-true, ltb-false, lt-ltb, le-ltb}
use Rattle.model.specs.Lists.{upto}
use Rattle.model.specs.Constraints.{Problem, Constraint, always}
use Rattle.model.specs.Rounds.{steps}
use Rattle.model.specs.Operations.{step_at, step_count}
use Rattle.laws.specs.Inclusion.{In}
use Rattle.laws.proofs.ListLaws.{of-upto, in_upto, get_or_in, in_get_or}

module _ (P : Problem) where
  pub step_in : (j : ℕ) → j < step_count P → In (step_at P j) (steps P)
  unfolding step_at steps
  step_in j h = go (ltb j (length P.constraints)) refl
    where
      go : (b : Bool) → ltb j (length P.constraints) ≡ b
          → In (cond b (get_or P.constraints j (always 0)) (always (j - length P.constraints))) (map always (upto P.strings) ++ P.constraints)
      go true e = Memᴰ.append_right (map always (upto P.strings)) (get_or_in P.constraints j (always 0) (ltb-true j (length P.constraints) e))
      go false e =
          let k = ltb-false j (length P.constraints) e in
          Memᴰ.append_left P.constraints (Memᴰ.map always (in_upto P.strings (j - length P.constraints) (omega arith)))

  pub in_step : (c : Constraint) → In c (steps P) → (j : ℕ) × (j < step_count P) × (step_at P j ≡ c)
  unfolding step_at steps
  in_step c m = ⊎_elim left right (Memᴰ.append_cases (map always (upto P.strings)) m)
    where
      n : ℕ
      n = length P.constraints

      left : In c (map always (upto P.strings)) → (j : ℕ) × (j < step_count P) × (cond (ltb j n) (get_or P.constraints j (always 0)) (always (j - n)) ≡ c)
      left k =
          let t = Memᴰ.of_map always (upto P.strings) k in
          let b = of-upto P.strings t.1 in
          let e : ltb (n + t.0) n ≡ false = le-ltb (n + t.0) n (omega arith) in
          let d : n + t.0 - n ≡ t.0 = omega arith in
          (n + t.0, omega arith, rw (e, d) t.2)

      right : In c P.constraints → (j : ℕ) × (j < step_count P) × (cond (ltb j n) (get_or P.constraints j (always 0)) (always (j - n)) ≡ c)
      right k =
          let t = in_get_or P.constraints (always 0) k in
          let b = t.1 in
          let e : ltb t.0 n ≡ true = lt-ltb t.0 n b in
          (t.0, omega arith, rw e t.2)
