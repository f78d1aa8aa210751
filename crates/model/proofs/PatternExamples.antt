-- Patterns worked out: the definitions compute, and what they give is held to a second program's answer. Assumes nothing.
use Rattle.std.specs.Prelude.{◌≡◌, refl}
use mathlib.Core.List.{[], ◌∷◌, flat_map}
use Rattle.model.specs.Lists.{select, any, all, from, upto}
use Rattle.model.specs.Words.{bit, bits, union}
use Rattle.model.specs.Replies.{refused, answered, require}
use Rattle.model.specs.PatternText.{symbol_of, symbol_at, sees, then_read, starred, ended, pattern_at, branch_at, item_at, parse}
use Rattle.model.specs.PatternStates.{when, nullable, first, last, follow, having, ahead, advance, final}
use Rattle.model.specs.Numbering.{number_in, reach, reach_all, explore}
use Rattle.model.specs.Compile.{same_state, successors, states, automaton_of, bytes_of, byte_of, encoded, letters_below, when_parsed, compiled_bytes}

-- text, symbols, room and answer: `(0|1)*0` 2 100; `0*` 1 100; `` 1 100; `()*|0` 2 100; `0**` 1 9; `0|0` 1 100; `01(0|1)*` 3 20; `0(1` 2 100; `1` 1 5; `a` 12 100; `(0|1)*0(0|1)(0|1)(0|1)` 2 200; `(0|1)*0(0|1)(0|1)(0|1)(0|1)` 2 200
pub worked :
    (compiled_bytes 2 (40 ∷ 48 ∷ 124 ∷ 49 ∷ 41 ∷ 42 ∷ 48 ∷ []) 100 ≡ answered (3 ∷ 2 ∷ 0 ∷ 0 ∷ 0 ∷ 1 ∷ 2 ∷ 1 ∷ 2 ∷ 1 ∷ 2 ∷ [])) ×
    (compiled_bytes 1 (48 ∷ 42 ∷ []) 100 ≡ answered (2 ∷ 3 ∷ 0 ∷ 0 ∷ 0 ∷ 1 ∷ 1 ∷ [])) ×
    (compiled_bytes 1 ([]) 100 ≡ answered (2 ∷ 1 ∷ 0 ∷ 0 ∷ 0 ∷ 1 ∷ 1 ∷ [])) ×
    (compiled_bytes 2 (40 ∷ 41 ∷ 42 ∷ 124 ∷ 48 ∷ []) 100 ≡ answered (3 ∷ 3 ∷ 0 ∷ 0 ∷ 0 ∷ 1 ∷ 2 ∷ 2 ∷ 2 ∷ 2 ∷ 2 ∷ [])) ×
    (compiled_bytes 1 (48 ∷ 42 ∷ 42 ∷ []) 9 ≡ refused 14) ×
    (compiled_bytes 1 (48 ∷ 124 ∷ 48 ∷ []) 100 ≡ answered (3 ∷ 2 ∷ 0 ∷ 0 ∷ 0 ∷ 1 ∷ 2 ∷ 2 ∷ [])) ×
    (compiled_bytes 3 (48 ∷ 49 ∷ 40 ∷ 48 ∷ 124 ∷ 49 ∷ 41 ∷ 42 ∷ []) 20 ≡ refused 17) ×
    (compiled_bytes 2 (48 ∷ 40 ∷ 49 ∷ []) 100 ≡ refused 14) ×
    (compiled_bytes 1 (49 ∷ []) 5 ≡ refused 15) ×
    (compiled_bytes 12 (97 ∷ []) 100 ≡ answered (3 ∷ 4 ∷ 0 ∷ 0 ∷ 0 ∷ 1 ∷ 1 ∷ 1 ∷ 1 ∷ 1 ∷ 1 ∷ 1 ∷ 1 ∷ 1 ∷ 1 ∷ 1 ∷ 2 ∷ 1 ∷ 1 ∷ 1 ∷ 1 ∷ 1 ∷ 1 ∷ 1 ∷ 1 ∷ 1 ∷ 1 ∷ 1 ∷ 1 ∷ 1 ∷ 1 ∷ 1 ∷ 1 ∷ 1 ∷ 1 ∷ 1 ∷ 1 ∷ 1 ∷ 1 ∷ 1 ∷ 1 ∷ [])) ×
    (compiled_bytes 2 (40 ∷ 48 ∷ 124 ∷ 49 ∷ 41 ∷ 42 ∷ 48 ∷ 40 ∷ 48 ∷ 124 ∷ 49 ∷ 41 ∷ 40 ∷ 48 ∷ 124 ∷ 49 ∷ 41 ∷ 40 ∷ 48 ∷ 124 ∷ 49 ∷ 41 ∷ []) 200 ≡ answered (17 ∷ 0 ∷ 254 ∷ 1 ∷ 0 ∷ 1 ∷ 2 ∷ 3 ∷ 4 ∷ 1 ∷ 2 ∷ 5 ∷ 6 ∷ 7 ∷ 8 ∷ 9 ∷ 10 ∷ 11 ∷ 12 ∷ 13 ∷ 14 ∷ 15 ∷ 16 ∷ 9 ∷ 10 ∷ 11 ∷ 12 ∷ 13 ∷ 14 ∷ 15 ∷ 16 ∷ 5 ∷ 6 ∷ 7 ∷ 8 ∷ 3 ∷ 4 ∷ 1 ∷ 2 ∷ [])) ×
    (compiled_bytes 2 (40 ∷ 48 ∷ 124 ∷ 49 ∷ 41 ∷ 42 ∷ 48 ∷ 40 ∷ 48 ∷ 124 ∷ 49 ∷ 41 ∷ 40 ∷ 48 ∷ 124 ∷ 49 ∷ 41 ∷ 40 ∷ 48 ∷ 124 ∷ 49 ∷ 41 ∷ 40 ∷ 48 ∷ 124 ∷ 49 ∷ 41 ∷ []) 200 ≡ refused 16)
unfolding select any all from upto bit bits union require flat_map symbol_of symbol_at sees then_read starred ended pattern_at branch_at item_at parse when nullable first
    last follow having ahead advance final number_in reach reach_all explore same_state successors states automaton_of bytes_of byte_of encoded letters_below when_parsed compiled_bytes
worked = (refl, refl, refl, refl, refl, refl, refl, refl, refl, refl, refl, refl)
