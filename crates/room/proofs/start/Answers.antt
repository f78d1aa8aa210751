use Rattle.std.proofs.Common.{rules}
use Rattle.laws.proofs.SliceLaws.{replaced}
use Rattle.room.proofs.MoveLaws.{start-tables}
use Rattle.room.proofs.start.Goals as goal

pub returns : goal.returns
unfolding replaced
returns c =
    let a = c.args in
    start-tables a.m a.bytes.now a.room.now _ _ _ (search rules) c.unpack.ensures c.unpack-2.ensures (c.fill.ensures.after (λ y e. search rules))
