use Rattle.std.proofs.Common.{refl}
use Rattle.automata.proofs.KindLaws.{spread-start, spread-turn, spread_end}
use Rattle.automata.proofs.columns.spread.Goals as goal

pub loop-a-init : goal.loop-a-init
loop-a-init c = rw (c.into_iter-a-iterator.ensures.into_iter_gives, c.each_bit-a-items.ensures) (spread-start _ _)

pub loop-a-preserved : goal.loop-a-preserved
loop-a-preserved c =
    let s = c.in-Some.ensures.steps in
    rw s.1 (spread-turn _ _ _ _ _ _ c.requires s.0 refl c.loop-a.invariant)

pub returns : goal.returns
returns c = spread_end _ _ _ _ c.in-None.ensures.steps.0 c.loop-a.invariant
