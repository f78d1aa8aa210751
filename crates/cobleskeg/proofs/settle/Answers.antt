use Rattle.std.proofs.Common.{rules, ◌≡◌, Err, sym}
use Rattle.laws.proofs.TableLaws.{words_of}
use Rattle.cobleskeg.proofs.AnswerLaws.{refuses, accepts, stays, shows}
use Rattle.cobleskeg.proofs.LentLaws.{settle-early, settle-unlent, rows-there, value_told, settle-done}
use Rattle.cobleskeg.proofs.settle.Goals as goal

pub returns-in_err-p : goal.returns-in_err-p
returns-in_err-p c =
    let same : c.from_residual.result ≡ Err c.in_err-p.field-0.0 = search rules in
    let r = settle-early _ _ (refuses _ _ c.in_err-p.ensures.result_value) c.args.table.now in
    record { result_after = rw same (sym r); table_after = stays _ _ _ _ r }

pub returns-in_err-lendable : goal.returns-in_err-lendable
returns-in_err-lendable c =
    let same : c.from_residual-in_err-lendable.result ≡ Err c.in_err-lendable.field-0.0 = search rules in
    let a = accepts c.in_ok-p.ensures.result_value c.in_ok-p.ensures.of_file in
    let r = settle-unlent a c.args.table.now _ c.in_err-lendable.ensures in
    record { result_after = rw same (sym r); table_after = stays _ _ _ _ r }

pub settle-count-requires : goal.settle-count-requires
settle-count-requires c =
    let a = accepts c.in_ok-p.ensures.result_value c.in_ok-p.ensures.of_file in
    c.in_ok-lendable.ensures

pub every_value-every_value-requires : goal.every_value-every_value-requires
every_value-every_value-requires c =
    let a = accepts c.in_ok-p.ensures.result_value c.in_ok-p.ensures.of_file in
    rows-there a c.args.table.now c.in_ok-lendable.ensures _ c.settle-count.ensures.table_after

pub returns : goal.returns
returns c =
    let a = accepts c.in_ok-p.ensures.result_value c.in_ok-p.ensures.of_file in
    let fits = c.in_ok-lendable.ensures in
    let v = value_told a c.args.table.now fits _ c.settle-count.ensures.table_after (words_of c.args.table.now (λ i. search rules)) _ c.every_value-every_value.ensures in
    let r = settle-done a c.args.table.now fits _ _ _ c.settle-count.ensures.value c.settle-count.ensures.table_after v in
    record { result_after = r; table_after = shows _ _ _ _ r }
