-- What a step that only says whether it struck makes of a table, and the strings that are trimmed in it. Assumes nothing.
use Rattle.std.specs.Prelude.{◌≡◌, Bool, true, false, List, ℕ, ◌<◌}
use Rattle.model.specs.Words.{bit}
use Rattle.model.specs.Constraints.{Problem, Constraint, always}
use Rattle.model.specs.Support.{narrowed, struck}

-- the step for constraint c makes U of T; whether it struck anything
pub record Strikes (P : Problem) (c : Constraint) (T U : List ℕ) (changed : Bool) : Type 0 where
  pub table : U ≡ narrowed P c T
  pub none : changed ≡ false → struck T U ≡ 0
  pub some : changed ≡ true → 0 < struck T U

-- bit x of w is set only where trimming string x strikes nothing
abbrev pub TrimmedIn : Problem → ℕ → List ℕ → Type 0
TrimmedIn P w T = (x : ℕ) → x < P.strings → bit w x ≡ true → narrowed P (always x) T ≡ T
