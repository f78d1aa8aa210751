use Rattle.std.proofs.Common.{rules, ◌≡◌, Err, sym}
use Rattle.cobleskeg.proofs.AnswerLaws.{refuses, accepts, stays, unpack-early, unpack-nine, table-there, unpack-whole}
use Rattle.cobleskeg.proofs.unpack.Goals as goal

pub returns-in_err-p : goal.returns-in_err-p
returns-in_err-p c =
    let same : c.from_residual.result ≡ Err c.in_err-p.field-0.0 = search rules in
    let r = unpack-early _ _ (refuses _ _ c.in_err-p.ensures.result_value) c.args.table.now in
    record { result_after = rw same (sym r); table_after = stays _ _ _ _ r }

pub returns-in_err-check_length : goal.returns-in_err-check_length
returns-in_err-check_length c =
    let same : c.from_residual-in_err-check_length.result ≡ Err c.in_err-check_length.field-0.0 = search rules in
    let r = unpack-nine (accepts c.in_ok-p.ensures.result_value c.in_ok-p.ensures.of_file) c.args.table.now c.in_err-check_length.ensures.1 in
    record { result_after = rw (same, c.in_err-check_length.ensures.0) (sym r); table_after = stays _ _ _ _ r }

pub returns : goal.returns
returns c =
    let r = unpack-whole (accepts c.in_ok-p.ensures.result_value c.in_ok-p.ensures.of_file) c.args.table.now c.in_ok-check_length.ensures _ c.table_bytes.ensures _ c.unpack.ensures in
    record { result_after = r.0; table_after = r.1 }

pub unpack-requires : goal.unpack-requires
unpack-requires c =
    table-there (accepts c.in_ok-p.ensures.result_value c.in_ok-p.ensures.of_file) c.args.table.now c.in_ok-check_length.ensures _ c.table_bytes.ensures
