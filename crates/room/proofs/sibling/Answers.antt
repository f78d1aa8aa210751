use Rattle.std.proofs.Common.{rules}
use Rattle.room.proofs.MoveLaws.{sibling-right}
use Rattle.room.proofs.sibling.Goals as goal

pub returns : goal.returns
returns c =
    let a = c.args in
    sibling-right a.m a.at _ a.room.now _ _ (search rules) (search rules) c.choose-v.ensures c.copy_within.ensures
