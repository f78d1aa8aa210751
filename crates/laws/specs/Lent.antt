-- A lent table that neither 9 nor 10 refuses, and tables on which no step strikes. Assumes nothing.
use Rattle.std.specs.Prelude.{◌≡◌, Bool, cond, ◌&&◌, List, ℕ, eqb, length}
use Rattle.model.specs.Constraints.{Problem, Constraint, width}
use Rattle.model.specs.Support.{narrowed}
use Rattle.model.specs.Rounds.{steps}
use Rattle.model.specs.Reading.{symbols_below}
use Rattle.laws.specs.Inclusion.{In}

-- neither refusal 9 nor refusal 10
unfoldable pub lendable : Problem → List ℕ → Bool
lendable P T = eqb (length T) (width P) && symbols_below P.symbols P.strings T

-- the refusal of any other
unfoldable pub unlendable : Problem → List ℕ → ℕ
unlendable P T = cond (eqb (length T) (width P)) 10 9

-- none of these constraints strikes anything
abbrev pub Fixed : Problem → List Constraint → List ℕ → Type 0
Fixed P cs T = (c : Constraint) → In c cs → narrowed P c T ≡ T

-- no step of the problem strikes anything
abbrev pub Stable : Problem → List ℕ → Type 0
Stable P T = Fixed P (steps P) T
