-- Cases for where the papers mislead (document 01, "Traps in the papers"). The first two traps are P8 and P9 of `Cases.antt`, the last is `bytes_past` of
-- `FileExamples.antt`; the other two are here. Assumes nothing.
use Rattle.std.specs.Prelude.{ℕ}
use mathlib.Core.List.{List, [], ◌∷◌}
use Rattle.model.specs.Constraints.{neq}
use Rattle.model.specs.Reading.{Accepted}
use Rattle.model.specs.Cases.{Case, sets, file_from, step_case}

-- "Letting Neq strike every symbol that both sides allow at a place": X and Y both {2}, {0}, {0,1} stand for two strings each, and nothing is struck
unfoldable pub both_allow : Case
both_allow =
    let r : List ℕ = sets ((2 ∷ []) ∷ (0 ∷ []) ∷ (0 ∷ 1 ∷ []) ∷ []) in
    step_case (file_from 4 (neq 0 1 ∷ []) [] (r ∷ r ∷ []) []) 0 (r ∷ r ∷ []) []

-- "Halting at the first empty domain gives a table that depends on order": X {1}, {} has no value, and Y {1,2}, {0} is trimmed all the same
unfoldable pub empty_first : Accepted
empty_first = file_from 4 [] [] (sets ((1 ∷ []) ∷ []) ∷ sets ((1 ∷ 2 ∷ []) ∷ (0 ∷ []) ∷ []) ∷ []) []
