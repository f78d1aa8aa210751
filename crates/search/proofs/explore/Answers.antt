use Rattle.std.proofs.Common.{rules}
use Rattle.search.proofs.ExploreLaws.{exploring_on, exploring_solved, exploring_over, exploring_spent}
use Rattle.search.proofs.explore.Goals as goal

pub returns-in-Solved-clause-answer_after : goal.returns-in-Solved-clause-answer_after
returns-in-Solved-clause-answer_after c =
    let i = c.loop-count.invariant in
    (exploring_solved _ _ _ _ _ _ _ i.2 c.loop-count-test.true _ _ c.visit.ensures c.in-Solved.is _ (rw c.words-m.ensures at c.copy.ensures)).0

pub returns-in-Over-clause-answer_after : goal.returns-in-Over-clause-answer_after
returns-in-Over-clause-answer_after c =
    let i = c.loop-count.invariant in
    (exploring_over _ _ _ _ _ _ _ i.2 c.loop-count-test.true _ _ c.visit.ensures c.in-Over.is _ i.1).0

pub loop-count-preserved : goal.loop-count-preserved
loop-count-preserved c =
    let i = c.loop-count.invariant in
    (search rules, i.1, exploring_on _ _ _ _ _ _ _ i.2 c.loop-count-test.true _ _ c.visit.ensures _ c.in-On.is)

pub returns-clause-answer_after : goal.returns-clause-answer_after
returns-clause-answer_after c =
    let i = c.loop-count.invariant in
    (exploring_spent _ _ _ _ _ _ _ i.2 c.loop-count-test.false _ i.1).0

pub returns-in-On-clause-answer_after : goal.returns-in-On-clause-answer_after
returns-in-On-clause-answer_after c =
    let i = c.loop-count.invariant in
    (exploring_spent _ _ _ _ _ _ _ (exploring_on _ _ _ _ _ _ _ i.2 c.loop-count-test.true _ _ c.visit.ensures _ c.in-On.is) (search rules) _ i.1).0
