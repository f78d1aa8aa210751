use Rattle.std.proofs.Common.{rules, ◌≡◌, Err}
use Rattle.format.specs.Problems.{parts_reply}
use Rattle.format.proofs.OutcomeLaws.{early, late, whole}
use Rattle.format.proofs.ContentLaws.{accepted-usable}
use Rattle.format.proofs.accept.Goals as goal

pub returns-in_err-parts-clause-result_value : goal.returns-in_err-parts-clause-result_value
returns-in_err-parts-clause-result_value c =
    let same : c.from_residual.result ≡ Err c.in_err-parts.field-0.0 = search rules in
    rw same (early _ _ c.in_err-parts.ensures.result_value)

pub returns-in_err-check-clause-result_value : goal.returns-in_err-check-clause-result_value
returns-in_err-check-clause-result_value c =
    let same : c.from_residual-in_err-check.result ≡ Err c.in_err-check.field-0.0 = search rules in
    rw same (late _ _ c.in_ok-parts.ensures.result_value _ c.in_err-check.ensures)

pub returns-clause-result_value : goal.returns-clause-result_value
unfolding parts_reply
returns-clause-result_value c = whole _ _ c.in_ok-parts.ensures.result_value c.in_ok-check.ensures

pub invariant_of-result : goal.invariant_of-result
invariant_of-result c =
    record { bytes = λ j. search rules; usable = accepted-usable _ _ (whole _ _ c.in_ok-parts.ensures.result_value c.in_ok-check.ensures) c.in_ok-parts.ensures.fitted }
