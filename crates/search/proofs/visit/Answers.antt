use Rattle.std.proofs.Common.{rules}
use Rattle.search.proofs.VisitLaws.{Visiting, table-bytes, current-lendable, current-begun, settled-down, settled_back}
use Rattle.search.proofs.visit.Goals as goal

pub settle-requires : goal.settle-requires
settle-requires c =
    let v : Visiting c.args.p.now.problem c.args.path c.args.room.now = record { fits = c.requires.0; stands = c.requires.1 } in
    (rw c.words-m.ensures (current-lendable v), rw c.words-m.ensures (current-begun v))

pub returns-then-settle : goal.returns-then-settle
returns-then-settle c =
    let v : Visiting c.args.p.now.problem c.args.path c.args.room.now = record { fits = c.requires.0; stands = c.requires.1 } in
    settled-down v _ _ (rw c.words-m.ensures at c.settle.ensures) _ _ c.if-settle.true (rw c.words-m.ensures at c.go_down.ensures)

pub go_back-requires : goal.go_back-requires
go_back-requires c =
    let e = c.words-m.ensures in
    let h = c.requires.0 in
    (rw (c.table_bytes.ensures, e) (table-bytes c.args.p.now.problem), search rules, rw e c.requires.1.1.inside)

pub returns : goal.returns
returns c =
    let v : Visiting c.args.p.now.problem c.args.path c.args.room.now = record { fits = c.requires.0; stands = c.requires.1 } in
    settled_back v _ _ (rw c.words-m.ensures at c.settle.ensures) _ _ c.if-settle.false (rw (c.words-m.ensures, c.table_bytes.ensures) at c.go_back.ensures)
