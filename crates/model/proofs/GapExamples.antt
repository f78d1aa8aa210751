-- Automata with gaps, worked out by hand (document 02, ticket 5). Assumes nothing.
use Rattle.std.specs.Prelude.{◌≡◌, refl}
use mathlib.Core.List.{[], ◌∷◌, flat_map}
use Rattle.std.proofs.Math.Option.{none, some, bind}
use Rattle.model.specs.Lists.{select, any, all, given, map_from, from, upto, same}
use Rattle.model.specs.Words.{bit, bits, none_from, union}
use Rattle.model.specs.Domains.{same_variable, texts, strings, row, values_of, owner}
use Rattle.model.specs.Constraints.{variables, move, reached, holds, accepts, meets}
use Rattle.model.specs.Solutions.{text_bit, used}
use Rattle.model.specs.Support.{choices, supports, touches, narrowed, struck}
use Rattle.model.specs.Replies.{require, and_then}
use Rattle.model.specs.Layout.{little}
use Rattle.model.specs.Reading.{symbols_below, pieces, target, known, automaton}
use Rattle.model.specs.Operations.{require_length, on_table, step_at, step}
use Rattle.model.specs.Cases.{Agrees, perform, set, sets, quote, table_from, file_from, step_case}
use Rattle.model.specs.Sink.{to_sink, with_sink}
use Rattle.model.specs.GapExamples.{lone, empty-alone, turns, gaps_strike}

-- "5 when a next state is neither below q nor 255": one state, one symbol and the next states 255, 0, 1 and 254
pub boundary :
    (automaton 1 (1 ∷ 1 ∷ 0 ∷ 0 ∷ 0 ∷ 255 ∷ []) ≡ some (record { accepting = 1; moves = (none ∷ []) ∷ [] })) ×
    (automaton 1 (1 ∷ 1 ∷ 0 ∷ 0 ∷ 0 ∷ 0 ∷ []) ≡ some (record { accepting = 1; moves = (some 0 ∷ []) ∷ [] })) ×
    (automaton 1 (1 ∷ 1 ∷ 0 ∷ 0 ∷ 0 ∷ 1 ∷ []) ≡ none) ×
    (automaton 1 (1 ∷ 1 ∷ 0 ∷ 0 ∷ 0 ∷ 254 ∷ []) ≡ none)
unfolding automaton known target pieces little none_from all given bits select upto from bit
boundary = (refl, refl, refl, refl)

pub steps-agree : Agrees empty-alone × Agrees gaps_strike
unfolding empty-alone gaps_strike lone turns step_case file_from table_from quote sets set perform
    select any all map_from from upto same bit bits none_from union
    same_variable texts strings row values_of owner variables move reached holds accepts meets text_bit used
    choices supports touches narrowed struck require and_then symbols_below require_length on_table step_at step flat_map bind
steps-agree = (refl, refl)

-- the sink is state 2
pub sink-written : with_sink 2 turns ≡ record { accepting = 2; moves = (some 2 ∷ some 1 ∷ []) ∷ (some 0 ∷ some 2 ∷ []) ∷ (some 2 ∷ some 2 ∷ []) ∷ [] }
unfolding turns with_sink to_sink
sink-written = refl
