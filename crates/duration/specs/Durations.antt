-- Durations by playlist version, and the step of a constraint that holds just of them. Assumes nothing.
use Rattle.std.specs.Prelude.{Option, ◌≡◌, Bool, cond, ◌&&◌, ◌||◌, List, [], ◌∷◌, ℕ, ◌+◌, eqb, leb, ltb, length, get_or, take, drop}
use Rattle.model.specs.Lists.{any, all, upto}
use Rattle.model.specs.Domains.{str}
use Rattle.model.specs.Constraints.{Automaton, Constraint, Choice, variables, meets}
use Rattle.rows.specs.Rows.{alone}
use Rattle.inplace.specs.declared.Changed.{Changed}
use Rattle.inplace.specs.InPlace.{InPlace}

-- by ticket 6 "Symbols 0 to 9 are the digits."
unfoldable pub is_digit : ℕ → Bool
is_digit a = ltb a 10

-- "one or more digits"
unfoldable pub digits : List ℕ → Bool
digits w = leb 1 (length w) && all is_digit w

-- the string is digits, symbol 10 after the first i of them, and digits
unfoldable pub point_at : List ℕ → ℕ → Bool
point_at w i = digits (take i w) && eqb (get_or w i 0) 10 && digits (drop (i + 1) w)

-- "Duration(X, v), with v the version": "For 1 and 2, X is 1 to 20 digits. From 3 on, X is one or more digits, then optionally symbol 10 and one or more
-- digits."
unfoldable pub is_duration : ℕ → List ℕ → Bool
is_duration v w = cond (ltb v 3) (digits w && leb (length w) 20) (digits w || any (point_at w) (upto (length w)))

-- the step of every constraint on one string, beside any automata, that holds just of the durations of version v
pub record DurationStep (v : ℕ) (T : List ℕ) (x : ℕ) (U : List ℕ) (r : Option Changed) : Type 0 where
  pub step : (ds : List Automaton) (c : Constraint) → variables c ≡ str 0 ∷ [] → ((α : Choice) → meets (alone 1 0 ds) c α ≡ is_duration v (α.text 0))
      → InPlace ds c (x ∷ []) [] T U r
