-- The steps that wait, as a line of step numbers. Assumes nothing.
use Rattle.std.specs.Prelude.{Bool, List, ℕ, ◌<◌, eqb}
use Rattle.model.specs.Lists.{any}
use Rattle.model.specs.Constraints.{Problem}
use Rattle.model.specs.Operations.{step_count}
use Rattle.laws.specs.Inclusion.{In, Distinct}

-- step d waits
abbrev pub waits : List ℕ → ℕ → Bool
waits q d = any (eqb d) q

-- what waits are steps of the problem, and none waits twice
pub record Line (P : Problem) (q : List ℕ) : Type 0 where
  pub steps : (j : ℕ) → In j q → j < step_count P
  pub distinct : Distinct q
