use Rattle.std.proofs.Common.{arith, rules}
use Rattle.waiting.proofs.BeginLaws.{trims-start, trims-next, trims-stop, trims-end}
use Rattle.waiting.proofs.tidy_all.Goals as goal

pub loop-x-init : goal.loop-x-init
loop-x-init c = (search rules, trims-start _ _)

pub returns-then-not-tidy : goal.returns-then-not-tidy
returns-then-not-tidy c =
    trims-stop c.requires c.loop-x-test.true c.loop-x.invariant.1 c.tidy.ensures (c.if-not-tidy.true)

pub loop-x-preserved : goal.loop-x-preserved
loop-x-preserved c =
    (search rules, trims-next c.requires c.loop-x-test.true c.loop-x.invariant.1 c.tidy.ensures (c.if-not-tidy.false))

pub returns : goal.returns
returns c = trims-end c.loop-x.x (omega arith) c.loop-x.invariant.1
