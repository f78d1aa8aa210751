-- Automata with gaps, worked out by hand (document 02, ticket 5). Assumes nothing.
use mathlib.Core.List.{[], ◌∷◌}
use Rattle.std.proofs.Math.Option.{none, some}
use Rattle.model.specs.Constraints.{Automaton, regular}
use Rattle.model.specs.Cases.{Case, sets, quote, file_from, step_case}

-- one state, accepting and without a move: the empty string alone is accepted
unfoldable pub lone : Automaton
lone = record { accepting = 1; moves = (none ∷ none ∷ []) ∷ [] }

-- k 2; X {0,1,2}, {0,1}, {0,1}: X the empty string, 6 bits struck
unfoldable pub empty-alone : Case
empty-alone = step_case (file_from 2 (regular 0 0 ∷ []) (lone ∷ []) (sets ((0 ∷ 1 ∷ 2 ∷ []) ∷ (0 ∷ 1 ∷ []) ∷ (0 ∷ 1 ∷ []) ∷ []) ∷ []) []) 6 (quote [] ∷ []) []

-- state 0 moves by symbol 1 alone, to state 1, which accepts and moves by symbol 0 alone, back
unfoldable pub turns : Automaton
turns = record { accepting = 2; moves = (none ∷ some 1 ∷ []) ∷ (some 0 ∷ none ∷ []) ∷ [] }

-- k 2; X {1,2,3} and {0,1} thrice: lengths {1,3}, {1}, {0}, {1}; a gap strikes symbols also where every state that is reached leads to an accepted end
unfoldable pub gaps_strike : Case
gaps_strike = step_case
    (file_from 2 (regular 0 0 ∷ []) (turns ∷ []) (sets ((1 ∷ 2 ∷ 3 ∷ []) ∷ (0 ∷ 1 ∷ []) ∷ (0 ∷ 1 ∷ []) ∷ (0 ∷ 1 ∷ []) ∷ []) ∷ []) [])
    4 (sets ((1 ∷ 3 ∷ []) ∷ (1 ∷ []) ∷ (0 ∷ []) ∷ (1 ∷ []) ∷ []) ∷ []) []
