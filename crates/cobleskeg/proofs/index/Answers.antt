use Rattle.std.proofs.Common.{rules, ◌≡◌, Err, sym}
use Rattle.cobleskeg.proofs.AnswerLaws.{refuses, accepts, stays, shows}
use Rattle.cobleskeg.proofs.ByIndexLaws.{index-early, index_eighteen, index-whole}
use Rattle.cobleskeg.proofs.index.Goals as goal

pub returns-in_err-problem : goal.returns-in_err-problem
returns-in_err-problem c =
    let same : c.from_residual.result ≡ Err c.in_err-problem.field-0.0 = search rules in
    let r = index-early _ _ (refuses _ _ c.in_err-problem.ensures.result_value) c.args.index.now in
    record { result_after = rw same (sym r); index_after = stays _ _ _ _ r }

pub returns-in_err-check_index : goal.returns-in_err-check_index
returns-in_err-check_index c =
    let same : c.from_residual-in_err-check_index.result ≡ Err c.in_err-check_index.field-0.0 = search rules in
    let r = index_eighteen (accepts c.in_ok-problem.ensures.result_value c.in_ok-problem.ensures.of_file) c.args.index.now c.in_err-check_index.ensures.1 in
    record { result_after = rw (same, c.in_err-check_index.ensures.0) (sym r); index_after = stays _ _ _ _ r }

pub write-requires : goal.write-requires
write-requires c = c.in_ok-check_index.ensures

pub returns : goal.returns
returns c =
    let r = index-whole (accepts c.in_ok-problem.ensures.result_value c.in_ok-problem.ensures.of_file) c.args.index.now c.in_ok-check_index.ensures _ c.write.ensures in
    record { result_after = r; index_after = shows _ _ _ _ r }
