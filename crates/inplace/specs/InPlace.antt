-- What a relation's step in place makes of the rows and the number words that it names. Assumes nothing.
use Rattle.std.specs.Prelude.{Option, Some, None, is_some, ◌≡◌, ◌≢◌, Bool, true, false, not, ℕ, ◌+◌, ◌*◌, ◌<◌, ◌≤◌, eqb, length, get_or, replicate}
use mathlib.Core.List.{List, [], ◌∷◌, ◌++◌, map, foldr}
use Rattle.model.specs.Words.{word}
use Rattle.model.specs.Domains.{row}
use Rattle.model.specs.Constraints.{Constraint, Automaton}
use Rattle.model.specs.Support.{narrowed}
use Rattle.laws.specs.Inclusion.{In}
use Rattle.rows.specs.Rows.{alone}
use Rattle.inplace.specs.declared.Changed.{Changed}
use Rattle.inplace.specs.InTable.{Tidy, Out, Flag}

-- whether a choice is left
abbrev pub left : Option Changed → Bool
left r = is_some r

-- whether argument i lost a bit
abbrev pub flag : ℕ → Option Changed → Bool
flag i None = false
flag i (Some c) = get_or (c.x ∷ c.y ∷ c.z ∷ []) i false

-- the rows of these strings, then these words, as a table of their own
abbrev pub taken : List ℕ → List ℕ → List ℕ → List ℕ
taken xs is T = foldr ◌++◌ (map (word T) is) (map (row T) xs)

-- The step of d, in which strings xs and words is stand for the strings and the numbers 0, 1, .., made U of T; ds are the automata that d may name.
-- No other word differs. Where a choice is left, rows and words are narrowed, the rows are tidy again, and each flag says whether its row or word differs;
-- where none is left they would all be 0, and nothing is said of what they are.
pub record InPlace (ds : List Automaton) (d : Constraint) (xs is T U : List ℕ) (r : Option Changed) : Type 0 where
  pub size : length U ≡ length T
  pub others : (k : ℕ) → ((x : ℕ) → In x xs → Out x k) → ((i : ℕ) → In i is → k ≢ i) → word U k ≡ word T k
  pub done : left r ≡ true → taken xs is U ≡ narrowed (alone (length xs) (length is) ds) d (taken xs is T)
  pub tidy : left r ≡ true → (x : ℕ) → In x xs → Tidy (row U x)
  pub rows : left r ≡ true → (j : ℕ) → j < length xs → Flag (row T (get_or xs j 0)) (row U (get_or xs j 0)) (flag j r)
  pub numbers : left r ≡ true → (j : ℕ) → j < length is → flag (length xs + j) r ≡ not (eqb (word T (get_or is j 0)) (word U (get_or is j 0)))
  pub no_more : left r ≡ true → (j : ℕ) → length xs + length is ≤ j → flag j r ≡ false
  pub none : left r ≡ false → replicate (64 * length xs + length is) 0 ≡ narrowed (alone (length xs) (length is) ds) d (taken xs is T)
