use Rattle.std.proofs.Common.{arith, rules}
use Rattle.index.proofs.JoiningLaws.{joined_next}
use Rattle.index.proofs.StandingLaws.{below-here}
use Rattle.index.proofs.join.Goals as goal

pub offset_bounds-ix-i : goal.offset_bounds-ix-i
offset_bounds-ix-i c =
    let l = below-here _ _ 32 c.listed-i-items.ensures c.requires _ c.loop-i-test.true in
    search rules

pub bounds-ix-i : goal.bounds-ix-i
bounds-ix-i c = below-here _ _ 32 c.listed-i-items.ensures c.requires _ c.loop-i-test.true

pub bounds-ix-i-in-loop-i : goal.bounds-ix-i-in-loop-i
bounds-ix-i-in-loop-i c = below-here _ _ 32 c.listed-i-items.ensures c.requires _ c.loop-i-test.true

pub loop-i-preserved : goal.loop-i-preserved
loop-i-preserved c =
    joined_next _ _ _ _ _ c.loop-i-test.true (omega (arith, below-here _ _ 32 c.listed-i-items.ensures c.requires _ c.loop-i-test.true)) c.loop-i.invariant
