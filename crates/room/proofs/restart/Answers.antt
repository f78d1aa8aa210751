use Rattle.std.proofs.Common.{rules}
use Rattle.laws.proofs.SliceLaws.{replaced}
use Rattle.room.proofs.MoveLaws.{restart-right}
use Rattle.room.proofs.restart.Goals as goal

pub returns : goal.returns
unfolding replaced
returns c =
    let a = c.args in
    restart-right a.m a.at _ a.room.now _ _ (search rules) (search rules)
    c.choose-v.ensures a.bytes.now _ c.copy_within.ensures c.decide.ensures
