use Rattle.std.proofs.Common.{rules, ◌∙◌}
use Rattle.cobleskeg_c.proofs.ReturnLaws.{refused-number, refused-stays, answered-number, answered-written}
use Rattle.std.proofs.Common.{arith, ap, refl}
use Rattle.refusals.proofs.NumberLaws.{number-some}
use Rattle.cobleskeg_c.specs.Numbers.{bit_of}
use Rattle.cobleskeg_c.proofs.EntryLaws.{byte_bit}
use Rattle.cobleskeg_c.proofs.cobleskeg_settle_by_index.Goals as goal

pub returns-in-Err : goal.returns-in-Err
returns-in-Err c =
    let told = c.in-Err.ensures.result_after in
    let some = number-some c.in-Err.e in
    record { value = c.number.ensures ∙ refused-number _ _ told; table_after = c.in-Err.ensures.table_after; steps_after = refused-stays _ _ told _ _; every_value_after = refused-stays _ _ told _ _; settled_alike = λ z. absurd (omega (arith, c.number.ensures)) }

pub returns-in-Ok : goal.returns-in-Ok
returns-in-Ok c =
    let told = c.in-Ok.ensures.result_after in
    let m = c.in-Ok.ensures.settles_alike _ refl in
    record { value = answered-number _ _ told; table_after = c.in-Ok.ensures.table_after; steps_after = answered-written _ _ told _ _; every_value_after = byte_bit _ ∙ answered-written _ _ told _ _; settled_alike = λ z. (m.0, m.1, m.2, byte_bit _ ∙ ap bit_of m.3) }
