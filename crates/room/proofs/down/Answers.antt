use Rattle.std.proofs.Common.{rules}
use Rattle.room.proofs.MoveLaws.{down-right}
use Rattle.room.proofs.down.Goals as goal

pub returns : goal.returns
returns c =
    let a = c.args in
    down-right a.m a.at _ a.room.now _ _ (search rules) (search rules) c.choose-v.ensures c.copy_within.ensures
