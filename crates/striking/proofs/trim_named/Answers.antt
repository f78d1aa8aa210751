use Rattle.std.proofs.Common.{rules, refl, arith}
use Rattle.steps.proofs.TidyLaws.{next-inside}
use Rattle.striking.proofs.TrimmingLaws.{trimming_turn}
use Rattle.striking.proofs.trim_named.Goals as goal

pub trim-t-requires : goal.trim-t-requires
trim-t-requires c =
    let k = next-inside c.args.m.now _ c.requires.0 c.strings-x-items.ensures c.loop-x.x-index (search rules) in
    (omega (arith, k, c.loop-x.invariant.0), omega (arith, c.loop-x.invariant.0, c.requires.1))

pub loop-x-preserved : goal.loop-x-preserved
loop-x-preserved c =
    (search rules, trimming_turn _ _ c.strings-x-items.result.now c.loop-x.x-index (search rules) c.loop-x.invariant.1 c.trim-t.ensures refl)
