use Rattle.std.proofs.Common.{rules, ◌∙◌}
use Rattle.cobleskeg_c.proofs.ReturnLaws.{refused-number, refused-stays, answered-number, answered-written}
use Rattle.cobleskeg_c.proofs.EntryLaws.{byte_bit}
use Rattle.cobleskeg_c.proofs.cobleskeg_settle.Goals as goal

pub returns-in-Err : goal.returns-in-Err
returns-in-Err c =
    let told = c.in-Err.ensures.result_after in
    record { value = c.number.ensures ∙ refused-number _ _ told; table_after = c.in-Err.ensures.table_after; rounds_after = refused-stays _ _ told _ _; every_value_after = refused-stays _ _ told _ _ }

pub returns-in-Ok : goal.returns-in-Ok
returns-in-Ok c =
    let told = c.in-Ok.ensures.result_after in
    record { value = answered-number _ _ told; table_after = c.in-Ok.ensures.table_after; rounds_after = answered-written _ _ told _ _; every_value_after = byte_bit _ ∙ answered-written _ _ told _ _ }
