-- P14 settled by a queue (document 02, ticket 3), worked out by hand: its index, and how many steps are run. Assumes nothing.
use Rattle.std.specs.Prelude.{◌≡◌, refl}
use mathlib.Core.List.{[], ◌∷◌, flat_map}
use Rattle.model.specs.Lists.{select, any, map_from, from, upto, same}
use Rattle.model.specs.Words.{bit, bits, union, size}
use Rattle.model.specs.Domains.{same_variable, texts, strings, row, values_of, owner}
use Rattle.model.specs.Constraints.{variables, meets}
use Rattle.model.specs.Solutions.{text_bit, used}
use Rattle.model.specs.Support.{choices, supports, touches, narrowed, struck}
use Rattle.model.specs.Rounds.{variables_of}
use Rattle.model.specs.Operations.{step_at}
use Rattle.model.specs.StepIndex.{step_touches, touching, word_from, pair, index_of}
use Rattle.model.specs.Queue.{sharing, joining, waiting_after, running_in, running, queueing}
use Rattle.model.specs.Cases.{set, sets, table_from, file_from, file14}

-- step 0 is Cat(X, Y, Z), 1 is Len(X, number), 2 to 4 trim X, Y and Z: X is touched by 0, 1 and 2, Y by 0 and 3, Z by 0 and 4, the number by 1
pub index14 : index_of file14.problem ≡ 7 ∷ 0 ∷ 9 ∷ 0 ∷ 17 ∷ 0 ∷ 2 ∷ 0 ∷ []
unfolding file14 file_from table_from sets set flat_map select any from upto union same_variable variables variables_of step_at step_touches touching word_from pair index_of
index14 = refl

-- 0 strikes, and the steps that share a variable with it wait; 1 strikes, and 0 joins; 2, 3, 4 and then 0 strike nothing. The two rounds take ten steps
pub queue14 : (queueing file14.problem file14.table).steps ≡ 6
unfolding file14 file_from table_from sets set flat_map select any map_from from upto same bit bits union size
    same_variable texts strings row values_of owner variables meets text_bit used
    choices supports touches narrowed struck
    step_at step_touches sharing joining waiting_after running_in running queueing
queue14 = refl
