use Rattle.std.proofs.Common.{arith}
use Rattle.steps.proofs.TrimSteps.{trim-fewer, trim-counted}
use Rattle.steps.proofs.trim.Goals as goal

pub overflow_sub-result : goal.overflow_sub-result
overflow_sub-result c =
    let k = trim-fewer _ _ c.requires _ c.trim_row.ensures in
    let p = c.bits-before.ensures in
    let q = c.bits.ensures in
    omega arith

pub returns : goal.returns
returns c =
    let p = c.bits-before.ensures in
    let q = c.bits.ensures in
    trim-counted _ _ c.requires _ c.trim_row.ensures _ (omega arith)
