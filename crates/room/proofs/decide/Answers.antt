use Rattle.std.proofs.Common.{rules}
use Rattle.laws.proofs.SliceLaws.{replaced}
use Rattle.room.proofs.MoveLaws.{decide-right}
use Rattle.room.proofs.decide.Goals as goal

pub returns : goal.returns
unfolding replaced
returns c =
    let a = c.args in
    decide-right a.at a.v a.bytes.now a.table.now (search rules) (search rules) _ c.unpack.ensures
