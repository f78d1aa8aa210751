use Rattle.std.proofs.Common.{rules, ◌≡◌, Err}
use Rattle.cobleskeg.proofs.LentLaws.{nine, in_range, ten, lends}
use Rattle.cobleskeg.proofs.lendable.Goals as goal

pub returns-in_err-check_length : goal.returns-in_err-check_length
returns-in_err-check_length c =
    let same : c.from_residual.result ≡ Err c.in_err-check_length.field-0.0 = search rules in
    rw (same, c.in_err-check_length.ensures.0) (nine c.args.p.now _ c.in_err-check_length.ensures.1)

pub table_low-requires : goal.table_low-requires
table_low-requires c = in_range c.args.p.now _ c.in_ok-check_length.ensures

pub returns-then-not-table_low : goal.returns-then-not-table_low
returns-then-not-table_low c = ten c.args.p.now _ c.in_ok-check_length.ensures _ c.table_low.ensures c.if-not-table_low.true

pub returns : goal.returns
returns c = lends c.args.p.now _ c.in_ok-check_length.ensures _ c.table_low.ensures c.if-not-table_low.false
