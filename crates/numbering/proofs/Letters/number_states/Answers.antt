use Rattle.std.proofs.Common.{arith}
use Rattle.numbering.proofs.StandLaws.{explored_start, explored_step, explored_over, explored_end}
use Rattle.numbering.proofs.Letters.number_states.Goals as goal

pub loop-i-init : goal.loop-i-init
loop-i-init c = explored_start _ _ _ _ _ _ c.new-states.ensures

pub loop-i-preserved : goal.loop-i-preserved
loop-i-preserved c = explored_step _ _ _ _ _ _ (omega arith) c.loop-i.invariant _ c.in_ok-visit.ensures

pub returns-in_err-visit : goal.returns-in_err-visit
returns-in_err-visit c = rw c.from_residual.ensures (explored_over _ _ _ _ _ _ (omega arith) c.loop-i.invariant c.in_err-visit.ensures)

pub returns : goal.returns
returns c = explored_end _ _ _ _ _ _ (omega arith) c.loop-i.invariant
