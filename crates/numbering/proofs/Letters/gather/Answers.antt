use Rattle.numbering.proofs.GatherLaws.{gathering_start, gathering_step, gathering_end}
use Rattle.numbering.proofs.Letters.gather.Goals as goal

pub loop-p-init : goal.loop-p-init
loop-p-init c = rw (c.into_iter-p-iterator.ensures.into_iter_gives, c.each_bit-p-items.ensures) (gathering_start _ _)

pub loop-p-preserved : goal.loop-p-preserved
loop-p-preserved c = let s = c.in-Some.ensures.steps in rw s.1 (gathering_step _ _ _ _ c.loop-p.invariant _ s.0)

pub returns : goal.returns
returns c = gathering_end _ _ _ _ c.loop-p.invariant c.in-None.ensures.steps.0
