use Rattle.std.proofs.Common.{arith, rules}
use mathlib.Core.Path.{sym, ◌∙◌}
use Rattle.laws.proofs.SliceLaws.{copied_step, copied_all}
use Rattle.index.proofs.LentLaws.{lent_length}
use Rattle.index.proofs.write.Goals as goal

pub loop-i-preserved : goal.loop-i-preserved
loop-i-preserved c =
    let n = lent_length c.args.p.now in
    copied_step _ _ _ _ _ (omega arith) (search rules) c.lent_word.ensures c.loop-i.invariant

pub returns : goal.returns
returns c =
    let n = lent_length c.args.p.now in
    copied_all _ _ _ _ (omega arith) (n ∙ sym c.requires) c.loop-i.invariant
