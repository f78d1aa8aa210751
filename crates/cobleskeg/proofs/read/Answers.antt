use Rattle.std.proofs.Common.{rules, ◌≡◌, Err, sym}
use Rattle.cobleskeg.proofs.AnswerLaws.{refuses, accepts, read-early, read-counts}
use Rattle.cobleskeg.proofs.read.Goals as goal

pub returns-in_err-parts : goal.returns-in_err-parts
returns-in_err-parts c =
    let same : c.from_residual.result ≡ Err c.in_err-parts.field-0.0 = search rules in
    rw same (sym (read-early _ _ (refuses _ _ c.in_err-parts.ensures.result_value)))

pub returns : goal.returns
returns c = read-counts (accepts c.in_ok-parts.ensures.result_value c.in_ok-parts.ensures.of_file)
