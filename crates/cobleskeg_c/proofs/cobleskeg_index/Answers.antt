use Rattle.std.proofs.Common.{rules, ◌∙◌}
use Rattle.cobleskeg_c.proofs.ReturnLaws.{refused-number, refused-stays, answered-number, answered-written}
use Rattle.cobleskeg_c.proofs.cobleskeg_index.Goals as goal

pub returns-in-Err : goal.returns-in-Err
returns-in-Err c =
    let told = c.in-Err.ensures.result_after in
    record { value = c.number.ensures ∙ refused-number _ _ told; index_after = c.in-Err.ensures.index_after }

pub returns-in-Ok : goal.returns-in-Ok
returns-in-Ok c =
    let told = c.in-Ok.ensures.result_after in
    record { value = answered-number _ _ told; index_after = c.in-Ok.ensures.index_after }
