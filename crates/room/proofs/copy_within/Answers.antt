use Rattle.std.proofs.Common.{arith, rules}
use Rattle.room.proofs.MoveLaws.{within-start, within_step, within_end}
use Rattle.room.proofs.copy_within.Goals as goal

pub loop-i-init : goal.loop-i-init
loop-i-init c = let a = c.args in within-start a.from a.to a.n a.room.now (search rules) (search rules)

pub loop-i-preserved : goal.loop-i-preserved
loop-i-preserved c =
    let a = c.args in
    let l = c.loop-i in
    within_step a.from a.to a.n a.room.now (search rules) (search rules) _ _ (search rules) l.invariant (search rules)

pub returns : goal.returns
returns c = within_end _ _ _ _ (search rules) (search rules) _ _ (omega arith) c.loop-i.invariant
