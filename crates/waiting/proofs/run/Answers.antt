use Rattle.std.proofs.Common.{arith}
use Rattle.waiting.proofs.TakingLaws.{taking_bit, taking_inside, taking_woken, taking_dead, taking_done}
use Rattle.waiting.proofs.run.Goals as goal

pub overflow_sub-pending : goal.overflow_sub-pending
overflow_sub-pending c =
    taking_bit c.args.p.now.problem c.loop-pending.invariant.0 _ _ c.next-j.ensures.0 c.singleton-pending.ensures

pub step-requires : goal.step-requires
step-requires c = (
  c.loop-pending.invariant.0.lent,
  taking_inside c.args.p.now.problem c.loop-pending.invariant.0 _ _ c.next-j.ensures.0 c.singleton-pending.ensures,
  c.loop-pending.invariant.0.tidy,
)

pub returns-in_default : goal.returns-in_default
returns-in_default c =
    taking_dead c.args.p.now.problem c.loop-pending.invariant.0 _ _ c.next-j.ensures.0 c.singleton-pending.ensures c.in_default.ensures

pub loop-pending-smaller : goal.loop-pending-smaller
loop-pending-smaller c =
    (taking_woken c.args.p.now.problem c.loop-pending.invariant.0 _ _ c.next-j.ensures.0 c.singleton-pending.ensures c.in-Some.ensures).1

pub loop-pending-preserved : goal.loop-pending-preserved
loop-pending-preserved c = (
  (taking_woken c.args.p.now.problem c.loop-pending.invariant.0 _ _ c.next-j.ensures.0 c.singleton-pending.ensures c.in-Some.ensures).0,
  c.next-j.ensures.1,
)

pub returns : goal.returns
returns c = taking_done c.args.p.now.problem c.loop-pending.invariant.0 (omega arith)
