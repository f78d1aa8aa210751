use Rattle.std.proofs.Common.{rules, ◌≡◌, Err, sym}
use Rattle.laws.proofs.TableLaws.{words_of}
use Rattle.cobleskeg.proofs.AnswerLaws.{refuses, accepts, stays, shows}
use Rattle.cobleskeg.proofs.LentLaws.{rows-there, value_told}
use Rattle.cobleskeg.proofs.ByIndexLaws.{by-index-early, by-index-unlent, by-index_eighteen, by-index_nineteen, index_same, rounds_end, by-index-done, by-index-alike}
use Rattle.cobleskeg.proofs.settle_by_index.Goals as goal

pub returns-in_err-p : goal.returns-in_err-p
returns-in_err-p c =
    let same : c.from_residual.result ≡ Err c.in_err-p.field-0.0 = search rules in
    let r = by-index-early _ _ (refuses _ _ c.in_err-p.ensures.result_value) c.args.index.now c.args.table.now in
    record { result_after = rw same (sym r); table_after = stays _ _ _ _ r; settles_alike = search rules }

pub returns-in_err-lendable : goal.returns-in_err-lendable
returns-in_err-lendable c =
    let same : c.from_residual-in_err-lendable.result ≡ Err c.in_err-lendable.field-0.0 = search rules in
    let a = accepts c.in_ok-p.ensures.result_value c.in_ok-p.ensures.of_file in
    let r = by-index-unlent a c.args.index.now c.args.table.now _ c.in_err-lendable.ensures in
    record { result_after = rw same (sym r); table_after = stays _ _ _ _ r; settles_alike = search rules }

pub returns-in_err-check_index : goal.returns-in_err-check_index
returns-in_err-check_index c =
    let same : c.from_residual-in_err-check_index.result ≡ Err c.in_err-check_index.field-0.0 = search rules in
    let a = accepts c.in_ok-p.ensures.result_value c.in_ok-p.ensures.of_file in
    let r = by-index_eighteen a c.args.index.now c.args.table.now c.in_ok-lendable.ensures c.in_err-check_index.ensures.1 in
    record { result_after = rw (same, c.in_err-check_index.ensures.0) (sym r); table_after = stays _ _ _ _ r; settles_alike = search rules }

pub is_of_file-requires : goal.is_of_file-requires
is_of_file-requires c = c.in_ok-check_index.ensures

pub returns-then-not-is_of_file : goal.returns-then-not-is_of_file
returns-then-not-is_of_file c =
    let a = accepts c.in_ok-p.ensures.result_value c.in_ok-p.ensures.of_file in
    let r = by-index_nineteen a c.args.index.now c.args.table.now c.in_ok-lendable.ensures c.in_ok-check_index.ensures _ c.is_of_file.ensures c.if-not-is_of_file.true in
    record { result_after = sym r; table_after = stays _ _ _ _ r; settles_alike = search rules }

pub settle-count-requires : goal.settle-count-requires
settle-count-requires c =
    let a = accepts c.in_ok-p.ensures.result_value c.in_ok-p.ensures.of_file in
    let fits = c.in_ok-lendable.ensures in
    (fits, index_same a c.args.index.now c.args.table.now fits c.in_ok-check_index.ensures _ c.is_of_file.ensures c.if-not-is_of_file.false)

pub every_value-every_value-requires : goal.every_value-every_value-requires
every_value-every_value-requires c =
    let a = accepts c.in_ok-p.ensures.result_value c.in_ok-p.ensures.of_file in
    let fits = c.in_ok-lendable.ensures in
    let end = rounds_end a c.args.index.now c.args.table.now fits c.in_ok-check_index.ensures _ c.is_of_file.ensures (words_of c.args.table.now (λ i. search rules)) _ c.settle-count.ensures.table_after in
    rows-there a c.args.table.now fits _ end

pub returns : goal.returns
returns c =
    let a = accepts c.in_ok-p.ensures.result_value c.in_ok-p.ensures.of_file in
    let fits = c.in_ok-lendable.ensures in
    let words = words_of c.args.table.now (λ i. search rules) in
    let end = rounds_end a c.args.index.now c.args.table.now fits c.in_ok-check_index.ensures _ c.is_of_file.ensures words _ c.settle-count.ensures.table_after in
    let v = value_told a c.args.table.now fits _ end words _ c.every_value-every_value.ensures in
    let r = by-index-done a c.args.index.now c.args.table.now fits c.in_ok-check_index.ensures _ c.is_of_file.ensures c.if-not-is_of_file.false _ _ _ c.settle-count.ensures.value c.settle-count.ensures.table_after end v in
    record { result_after = r; table_after = shows _ _ _ _ r; settles_alike = by-index-alike a c.args.index.now c.args.table.now fits _ _ _ end v }
