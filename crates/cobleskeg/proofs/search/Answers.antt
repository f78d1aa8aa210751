use Rattle.std.proofs.Common.{rules, ◌≡◌, Err, arith, sym, ◌∙◌}
use Rattle.cobleskeg.proofs.AnswerLaws.{refuses, accepts, stays, shows, counts}
use Rattle.cobleskeg.proofs.SearchEntryLaws.{search-holds, search-early, search_twelve, search_thirteen, search-done}
use Rattle.cobleskeg.proofs.search.Goals as goal

pub returns-in_err-p : goal.returns-in_err-p
returns-in_err-p c =
    let same : c.from_residual.result ≡ Err c.in_err-p.field-0.0 = search rules in
    let r = search-early _ _ (refuses _ _ c.in_err-p.ensures.result_value) c.args.budget c.args.room.now c.args.table.now in
    rw same (record { result_after = sym r; room_after = stays _ _ _ _ r; table_after = stays _ _ _ _ r; search_holds = search-holds _ (λ i. search rules) _ _ _ c.args.room.now _ _ (sym r) })

pub returns-then-room-words : goal.returns-then-room-words
returns-then-room-words c =
    let r = search_twelve (accepts c.in_ok-p.ensures.result_value c.in_ok-p.ensures.of_file) c.args.budget c.args.room.now c.args.table.now (omega arith) in
    record { result_after = sym r; room_after = stays _ _ _ _ r; table_after = stays _ _ _ _ r; search_holds = search-holds _ (λ i. search rules) _ _ _ c.args.room.now _ _ (sym r) }

pub returns-then-table-words : goal.returns-then-table-words
returns-then-table-words c =
    let r = search_thirteen (accepts c.in_ok-p.ensures.result_value c.in_ok-p.ensures.of_file) c.args.budget c.args.room.now c.args.table.now (omega arith) (λ e. c.if-table-words.true (e ∙ sym c.words-words.ensures)) in
    record { result_after = sym r; room_after = stays _ _ _ _ r; table_after = stays _ _ _ _ r; search_holds = search-holds _ (λ i. search rules) _ _ _ c.args.room.now _ _ (sym r) }

pub search-requires : goal.search-requires
search-requires c =
    (omega arith, omega arith)

pub returns : goal.returns
returns c =
    let s = c.search.ensures in
    let r = search-done (accepts c.in_ok-p.ensures.result_value c.in_ok-p.ensures.of_file) c.args.budget c.args.room.now c.args.table.now (omega arith) (c.if-table-words.false ∙ c.words-words.ensures) _ _ _ s.answer_after s.room_after in
    record { result_after = r; room_after = shows _ _ _ _ r; table_after = shows _ _ _ _ r; search_holds = search-holds _ (λ i. search rules) _ _ _ _ _ _ r }

pub overflow_mul-words : goal.overflow_mul-words
overflow_mul-words c = let most = (counts c.in_ok-p.p).most-words in omega arith
