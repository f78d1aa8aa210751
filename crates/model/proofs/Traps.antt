-- What the definitions say where the papers mislead (document 01, "Traps in the papers"), by computation. The first two traps are P8 and P9 of
-- `specs/Cases.antt`, the last is `reading_past` of `FileExamples.antt`; the other two are here. Assumes nothing.
use Rattle.std.specs.Prelude.{◌≡◌, refl, false}
use mathlib.Core.List.{[], ◌∷◌, flat_map}
use Rattle.model.specs.Lists.{select, any, all, map_from, from, upto, same}
use Rattle.model.specs.Words.{bit, bits, none_from, union, size}
use Rattle.model.specs.Domains.{same_variable, texts, strings, row, values_of, owner}
use Rattle.model.specs.Constraints.{variables, differ, meets}
use Rattle.model.specs.Solutions.{text_bit, used}
use Rattle.model.specs.Support.{choices, supports, touches, narrowed, struck}
use Rattle.model.specs.Rounds.{variables_of, value_count, every_value, steps, run, round, after, settling_in, settling}
use Rattle.model.specs.Replies.{answered, require, and_then}
use Rattle.model.specs.Reading.{symbols_below}
use Rattle.model.specs.Operations.{require_length, on_table, step_at, step, settle}
use Rattle.model.specs.Cases.{Agrees, perform, set, sets, quote, empty, table_from, file_from, step_case}
use Rattle.model.specs.Traps.{both_allow, empty_first}

pub both_allow-agrees : Agrees both_allow
unfolding both_allow step_case file_from table_from sets set perform
    select any all map_from from upto same bit bits none_from union size
    same_variable texts strings row values_of owner variables differ meets text_bit used choices supports touches narrowed struck
    require and_then symbols_below require_length on_table step_at step flat_map
both_allow-agrees = refl

pub empty_first-settles : settle (answered empty_first) empty_first.table ≡ answered (record { rounds = 2; every_value = false; table = table_from (empty ∷ quote (0 ∷ []) ∷ []) [] })
unfolding empty_first file_from table_from sets set quote
    select any all map_from from upto same bit bits none_from union size
    same_variable texts strings row values_of owner variables meets text_bit used choices supports touches narrowed struck
    variables_of value_count every_value steps run round after settling_in settling
    require and_then symbols_below require_length on_table settle flat_map
empty_first-settles = refl
