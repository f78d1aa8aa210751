use Rattle.std.proofs.Common.{rules}
use Rattle.index.proofs.NotingLaws.{noting_first, noting_inside, noting_next, noting_last}
use Rattle.index.proofs.of_file.Goals as goal

pub loop-j-init : goal.loop-j-init
loop-j-init c = noting_first _

pub join-requires : goal.join-requires
join-requires c =
    noting_inside c.args.p.now _ c.loop-j-test.true _ c.constraint-r.ensures _ c.positions_of.ensures

pub loop-j-preserved : goal.loop-j-preserved
loop-j-preserved c =
    noting_next c.args.p.now _ c.loop-j-test.true _ c.constraint-r.ensures _ c.positions_of.ensures _ _ _
    c.singleton.ensures c.loop-j.invariant c.join.ensures

pub returns : goal.returns
returns c = noting_last c.args.p.now _ _ (search rules) (search rules) c.loop-j.invariant
