use mathlib.Core.Path.{refl, ap}
use Rattle.std.specs.Prelude.{Ok}
use Rattle.std.proofs.Common.{arith}
use Rattle.listing.proofs.WritingLaws.{wrote_append, capacity_rest}
use Rattle.listing.proofs.SearchedLaws.{ending_capacity, never-refused, none_lines, spent_lines, found_lines, found_capacity, found-ready}
use Rattle.listing.proofs.outcome.Goals as goal

pub returns-in_err-n : goal.returns-in_err-n
returns-in_err-n c = absurd (never-refused _ _ _ _ c.requires.0 c.search.new.room c.search.new.table _ c.in_err-n.ensures.result_after _ refl)

pub ending-requires : goal.ending-requires
ending-requires c = ending_capacity _ _ c.requires.1 (omega arith) (omega arith)

pub solution-requires : goal.solution-requires
solution-requires c =
    let s = c.in_ok-n.ensures in
    let ready = found-ready _ _ _ _ c.requires.0 _ _ _ s.result_after s.search_holds _ (ap Ok c.in-Found.is) in
    let capacity = found_capacity _ _ _ _ c.requires.0 _ _ _ s.result_after s.search_holds _ (ap Ok c.in-Found.is) c.requires.1 in
    (ready.0, ready.1, capacity_rest c.ending.ensures _ capacity)

pub ending-requires-in-None : goal.ending-requires-in-None
ending-requires-in-None c = ending_capacity _ _ c.requires.1 (omega arith) (omega arith)

pub ending-requires-in-Spent : goal.ending-requires-in-Spent
ending-requires-in-Spent c = ending_capacity _ _ c.requires.1 (omega arith) (omega arith)

pub returns-in-Found : goal.returns-in-Found
returns-in-Found c =
    let s = c.in_ok-n.ensures in
    let capacity = found_capacity _ _ _ _ c.requires.0 _ _ _ s.result_after s.search_holds _ (ap Ok c.in-Found.is) c.requires.1 in
    rw (found_lines _ _ _ _ c.requires.0 _ _ _ s.result_after s.search_holds _ (ap Ok c.in-Found.is)) (capacity, wrote_append c.ending.ensures c.solution.ensures)

pub returns-in-None : goal.returns-in-None
returns-in-None c =
    rw (none_lines _ _ _ _ c.requires.0 _ _ _ c.in_ok-n.ensures.result_after _ (ap Ok c.in-None.is))
    (ending_capacity _ _ c.requires.1 (omega arith) (omega arith), c.ending-in-None.ensures)

pub returns-in-Spent : goal.returns-in-Spent
returns-in-Spent c =
    rw (spent_lines _ _ _ _ c.requires.0 _ _ _ c.in_ok-n.ensures.result_after _ (ap Ok c.in-Spent.is))
    (ending_capacity _ _ c.requires.1 (omega arith) (omega arith), c.ending-in-Spent.ensures)
