use Rattle.std.proofs.Common.{rules, ◌∙◌}
use Rattle.cobleskeg_c.proofs.ReturnLaws.{refused-number, refused-stays, answered-number, answered-written}
use Rattle.refusals.proofs.NumberLaws.{number-some}
use Rattle.std.proofs.Common.{arith, refl}
use Rattle.cobleskeg_c.proofs.cobleskeg_compile.Goals as goal

pub returns-in-Err : goal.returns-in-Err
returns-in-Err c =
    let told = c.in-Err.ensures.result_after in
    let some = number-some c.in-Err.e in
    record { value = c.number.ensures ∙ refused-number _ _ told; buffer_after = c.in-Err.ensures.buffer_after; written_after = refused-stays _ _ told _ _; accepts_language = λ z. absurd (omega (arith, c.number.ensures)) }

pub returns-in-Ok : goal.returns-in-Ok
returns-in-Ok c =
    let told = c.in-Ok.ensures.result_after in
    record { value = answered-number _ _ told; buffer_after = c.in-Ok.ensures.buffer_after; written_after = answered-written _ _ told _ _; accepts_language = λ z. c.in-Ok.ensures.compile_holds _ refl }
