-- P1 to P14 hold of the definitions, by computation. Assumes nothing.
use Rattle.std.specs.Prelude.{refl}
use Rattle.std.proofs.Common.{subst, sym}
use mathlib.Core.List.{List, [], ◌∷◌, Memᴰ, flat_map}
use Rattle.std.proofs.Math.Option.{Option-elim, bind}
use Rattle.model.specs.Lists.{select, any, all, find, map_from, from, upto, same}
use Rattle.model.specs.Words.{bit, bits, several, none_from, union, size}
use Rattle.model.specs.Domains.{same_variable, texts, strings, row, values_of, owner}
use Rattle.model.specs.Constraints.{variables, differ, is_part, move, reached, holds, accepts, meets}
use Rattle.model.specs.Solutions.{text_bit, used}
use Rattle.model.specs.Support.{choices, supports, touches, narrowed, struck}
use Rattle.model.specs.Rounds.{variables_of, value_count, every_value, steps, run, round, after, settling_in, settling}
use Rattle.model.specs.Tree.{solved, words_of, branch_variable, branch_word, branch, restricted, children, nodes_in, nodes, numbered, first_solved, hit, miss, searching}
use Rattle.model.specs.Replies.{require, and_then}
use Rattle.model.specs.Reading.{symbols_below}
use Rattle.model.specs.Operations.{require_length, on_table, step_at, step, search}
use Rattle.model.specs.Cases.{Case, cases, Agrees, AllAgree, perform, set, sets, quote, table_from, file_from, step_case, parity, file14, p1, p2, p3, p4, p5, p6, p7, p8, p9, p10, p11, p12, p13, p14}

each : (cs : List Case) → AllAgree cs → (c : Case) → Memᴰ c cs → Agrees c
each [] h c m = elim m [ ]
each (d ∷ cs) h c (Memᴰ.head e) = subst Agrees (sym e) h.0
each (d ∷ cs) h c (Memᴰ.tail m) = each cs h.1 c m

computed : unfold cases in AllAgree cases
unfolding cases p1 p2 p3 p4 p5 p6 p7 p8 p9 p10 p11 p12 p13 p14 file14 parity step_case file_from table_from quote sets set perform
    select any all find map_from from upto same bit bits several none_from union size
    same_variable texts strings row values_of owner variables differ is_part move reached holds accepts meets text_bit used
    choices supports touches narrowed struck variables_of value_count every_value steps run round after settling_in settling
    solved words_of branch_variable branch_word branch restricted children nodes_in nodes numbered first_solved hit miss searching
    require and_then symbols_below require_length on_table step_at step search flat_map Option-elim bind
computed = (refl, (refl, (refl, (refl, (refl, (refl, (refl, (refl, (refl, (refl, (refl, (refl, (refl, (refl, tt))))))))))))))

-- every case of the table agrees with the definitions
pub cases_hold : (c : Case) → Memᴰ c cases → Agrees c
unfolding cases computed
cases_hold = each cases computed
