use Rattle.std.proofs.Common.{rules}
use Rattle.search.proofs.VisitLaws.{table-bytes}
use Rattle.search.proofs.ExploreLaws.{search-standing, search-right}
use Rattle.search.proofs.search.Goals as goal

pub start-requires : goal.start-requires
start-requires c = (rw (c.table_bytes.ensures, c.words-m.ensures) (table-bytes c.args.p.now), rw c.words-m.ensures c.requires.0)

pub explore-outcome-requires : goal.explore-outcome-requires
explore-outcome-requires c = (
  search rules,
  c.requires.1,
  search-standing c.args.p.now c.args.room.now c.start.new.room (rw (c.words-m.ensures, c.table_bytes.ensures) at c.start.ensures),
)

pub returns-clause-answer_after : goal.returns-clause-answer_after
returns-clause-answer_after c =
    search-right c.args.p.now c.args.room.now c.start.new.room (rw (c.words-m.ensures, c.table_bytes.ensures) at c.start.ensures) _ _ _ c.explore-outcome.ensures.answer_after
