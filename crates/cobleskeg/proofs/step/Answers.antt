use Rattle.std.proofs.Common.{rules, ◌≡◌, Err, sym}
use Rattle.cobleskeg.proofs.AnswerLaws.{refuses, accepts, stays, shows}
use Rattle.cobleskeg.proofs.LentLaws.{step-early, step-unlent, step_eleven, step-done}
use Rattle.cobleskeg.proofs.step.Goals as goal

pub returns-in_err-p : goal.returns-in_err-p
returns-in_err-p c =
    let same : c.from_residual.result ≡ Err c.in_err-p.field-0.0 = search rules in
    let r = step-early _ _ (refuses _ _ c.in_err-p.ensures.result_value) c.args.j c.args.table.now in
    record { result_after = rw same (sym r); table_after = stays _ _ _ _ r }

pub returns-in_err-lendable : goal.returns-in_err-lendable
returns-in_err-lendable c =
    let same : c.from_residual-in_err-lendable.result ≡ Err c.in_err-lendable.field-0.0 = search rules in
    let a = accepts c.in_ok-p.ensures.result_value c.in_ok-p.ensures.of_file in
    let r = step-unlent a c.args.table.now _ c.in_err-lendable.ensures c.args.j in
    record { result_after = rw same (sym r); table_after = stays _ _ _ _ r }

pub returns-then-j-p : goal.returns-then-j-p
returns-then-j-p c =
    let a = accepts c.in_ok-p.ensures.result_value c.in_ok-p.ensures.of_file in
    let r = step_eleven a c.args.table.now c.in_ok-lendable.ensures c.args.j c.if-j-p.true in
    record { result_after = sym r; table_after = stays _ _ _ _ r }

pub step-requires : goal.step-requires
step-requires c =
    let a = accepts c.in_ok-p.ensures.result_value c.in_ok-p.ensures.of_file in
    (c.in_ok-lendable.ensures, c.if-j-p.false)

pub returns : goal.returns
returns c =
    let a = accepts c.in_ok-p.ensures.result_value c.in_ok-p.ensures.of_file in
    let r = step-done a c.args.table.now c.in_ok-lendable.ensures c.args.j c.if-j-p.false _ _ c.step.ensures in
    record { result_after = r; table_after = shows _ _ _ _ r }
