use Rattle.std.proofs.Common.{arith}
use Rattle.parser.proofs.Links.{link_start, link-step, link-end}
use Rattle.parser.proofs.link.Goals as goal

pub loop-p-init : goal.loop-p-init
loop-p-init c = rw (c.into_iter-p-iterator.ensures.into_iter_gives, c.each_bit-p-items.ensures) (link_start _ _ _)

pub loop-p-preserved : goal.loop-p-preserved
loop-p-preserved c = let s = c.in-Some.ensures.steps in rw s.1 (link-step _ _ _ _ _ c.loop-p.invariant (omega arith) _ s.0)

pub returns : goal.returns
returns c = link-end _ _ _ _ _ c.loop-p.invariant c.in-None.ensures.steps.0
