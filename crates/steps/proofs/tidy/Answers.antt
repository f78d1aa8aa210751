use Rattle.std.proofs.Common.{arith, rules}
use Rattle.steps.proofs.TidyLaws.{next-inside, tidies_turn, tidies_stop}
use Rattle.steps.proofs.tidy.Goals as goal

pub tidy-requires : goal.tidy-requires
tidy-requires c =
    let s = c.loop-x.invariant.size in
    let k = next-inside c.args.m.now _ c.requires c.strings-x-items.ensures c.loop-x.x-index (search rules) in
    omega arith

pub returns-then-not-tidy : goal.returns-then-not-tidy
returns-then-not-tidy c =
    tidies_stop c.args.m.now _ c.requires c.strings-x-items.ensures c.loop-x.x-index (search rules) c.loop-x.invariant c.tidy.ensures c.if-not-tidy.true

pub loop-x-preserved : goal.loop-x-preserved
loop-x-preserved c =
    tidies_turn c.args.m.now _ c.requires c.strings-x-items.ensures c.loop-x.x-index (search rules) c.loop-x.invariant c.tidy.ensures c.if-not-tidy.false
