use Rattle.std.proofs.Common.{arith, rules}
use mathlib.Core.Path.{sym, ◌∙◌}
use lib.ListN.{length}
use Rattle.laws.proofs.SliceLaws.{copied_step, copied_all}
use Rattle.laws.proofs.ReadingLaws.{table-length, table-word}
use Rattle.tables.proofs.unpack.Goals as goal

pub loop-i-preserved : goal.loop-i-preserved
loop-i-preserved c =
    let a = c.args in
    let n = length a.table.now in
    let l = table-length n a.bytes.now in
    let e = table-word n a.bytes.now c.loop-i.i (search rules) in
    copied_step _ _ _ _ _ (omega arith) (search rules) (c.eight.ensures ∙ sym e) c.loop-i.invariant

pub returns : goal.returns
returns c =
    let a = c.args in
    let l = table-length (length a.table.now) a.bytes.now in
    copied_all _ _ _ _ (omega arith) l c.loop-i.invariant
