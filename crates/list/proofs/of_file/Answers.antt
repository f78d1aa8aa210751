use Rattle.std.proofs.Common.{arith}
use Rattle.list.proofs.CopyLaws.{copied_next, copied_listed}
use Rattle.list.proofs.of_file.Goals as goal

pub loop-j-preserved : goal.loop-j-preserved
loop-j-preserved c =
    copied_next _ _ _ _ (omega (arith, c.args.p.now.usable.fits.constraints-most)) c.constraint.ensures c.loop-j.invariant

pub returns : goal.returns
returns c = copied_listed _ _ _ (omega arith) c.loop-j.invariant
