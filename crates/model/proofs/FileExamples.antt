-- What the definitions say of two files by their bytes: P14's, with what the program prints for it, and one whose distances sum past 32 bits. Assumes nothing.
use Rattle.std.specs.Prelude.{◌≡◌, refl, length}
use mathlib.Core.List.{flat_map}
use Rattle.std.proofs.Math.Option.{Option-elim, bind}
use Rattle.model.specs.Lists.{select, any, all, find, given, map_from, collect, from, upto, same}
use Rattle.model.specs.Words.{bit, bits, several, none_from, union, size}
use Rattle.model.specs.Domains.{same_variable, texts, strings, row, values_of, owner}
use Rattle.model.specs.Constraints.{variables, meets}
use Rattle.model.specs.Solutions.{text_bit, used}
use Rattle.model.specs.Support.{choices, supports, touches, narrowed, struck}
use Rattle.model.specs.Rounds.{variables_of, value_count, every_value, steps, run, round, after, settling_in, settling}
use Rattle.model.specs.Tree.{solved, words_of, branch_variable, branch_word, branch, restricted, children, nodes_in, nodes, numbered, first_solved, hit, miss, searching}
use Rattle.model.specs.Replies.{refused, answered, require, obtain, and_then}
use Rattle.model.specs.Layout.{little, trailer, in_bounds, abutting, layout}
use Rattle.model.specs.Reading.{pieces, automaton, automata_in, names, kinds, kind_of, decode, repeats, symbols_below, problem_of, reading}
use Rattle.model.specs.Operations.{search}
use Rattle.model.specs.Listing.{decimal_in, decimal, field, line, string_line, number_line, solution_lines, outcome_lines, reply_lines, search_lines, listing}
use Rattle.model.specs.Cases.{set, sets, table_from, file_from, file14}
use Rattle.model.specs.FileExamples.{bytes_of, bytes14, lines14, bytes_past}

pub reading14 : reading bytes14 ≡ answered file14
unfolding bytes14 bytes_of file14 file_from table_from sets set flat_map bind select any all given collect from upto same bit bits none_from same_variable variables
    require obtain and_then little trailer in_bounds abutting layout pieces automaton automata_in names kinds kind_of decode repeats symbols_below problem_of reading
reading14 = refl

search_lines14 : search_lines (answered file14) ≡ answered lines14
unfolding lines14 file14 file_from table_from sets set select any all find map_from from upto same bit bits several union size
    same_variable texts strings row values_of owner variables meets text_bit used
    choices supports touches narrowed struck variables_of value_count every_value steps run round after settling_in settling
    solved words_of branch_variable branch_word branch restricted children nodes_in nodes numbered first_solved hit miss searching
    require and_then search flat_map Option-elim bind decimal_in decimal field line string_line number_line solution_lines outcome_lines search_lines
search_lines14 = refl

length14 : length bytes14 ≡ 1576
unfolding bytes14 bytes_of file14 file_from table_from sets set flat_map
length14 = refl

pub listing14 : listing bytes14 ≡ lines14
unfolding listing reply_lines require
listing14 = rw (length14, reading14, search_lines14)

-- "The distances of refusal 4 may sum past 32 bits"
pub reading_past : reading bytes_past ≡ refused 4
unfolding bytes_past bytes_of same require and_then little trailer in_bounds abutting layout reading
reading_past = refl
