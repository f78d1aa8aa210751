-- One spelling for the durations of all versions, with two arguments: the greatest length, and the word of the symbols that may be the point. Assumes nothing.
use Rattle.std.specs.Prelude.{Option, ◌≡◌, Bool, ◌&&◌, ◌||◌, List, [], ◌∷◌, ℕ, ◌+◌, ◌<◌, leb, length, get_or, take, drop}
use Rattle.model.specs.Lists.{any, upto}
use Rattle.model.specs.Words.{bit}
use Rattle.model.specs.Domains.{str}
use Rattle.model.specs.Constraints.{Automaton, Constraint, Choice, variables, meets}
use Rattle.rows.specs.Rows.{alone}
use Rattle.inplace.specs.declared.Changed.{Changed}
use Rattle.inplace.specs.InPlace.{InPlace}
use Rattle.duration.specs.Durations.{digits}

-- the string is digits, a point after the first i of them, and digits
unfoldable pub parted_at : ℕ → List ℕ → ℕ → Bool
parted_at points w i = digits (take i w) && bit points (get_or w i 0) && digits (drop (i + 1) w)

-- one or more digits, then optionally a point and one or more digits; of at most so many symbols
unfoldable pub is_spelled : ℕ → ℕ → List ℕ → Bool
is_spelled most points w = leb (length w) most && (digits w || any (parted_at points w) (upto (length w)))

-- the step of every constraint on one string, beside any automata, that holds just of the strings spelled so, among those of at most 63 symbols
pub record Spells (most points : ℕ) (T : List ℕ) (x : ℕ) (U : List ℕ) (r : Option Changed) : Type 0 where
  pub step : (ds : List Automaton) (c : Constraint) (test : List ℕ → Bool) → variables c ≡ str 0 ∷ []
      → ((α : Choice) → meets (alone 1 0 ds) c α ≡ test (α.text 0))
      → ((w : List ℕ) → length w < 64 → test w ≡ is_spelled most points w) → InPlace ds c (x ∷ []) [] T U r
