use Rattle.std.proofs.Common.{rules}
use Rattle.list.proofs.StepWalkLaws.{walk_start, walk-lent}
use Rattle.list.proofs.ListedLaws.{listed-there, front-less, front-at, walks_next, listed_ran}
use Rattle.list.proofs.lent_steps.Goals as goal

pub loop-r-init : goal.loop-r-init
loop-r-init c = walk_start _ _ _

pub apply-requires : goal.apply-requires
apply-requires c =
    let r = c.requires in
    let less = front-less _ _ r.2 _ c.loop-r-test.true in
    (walk-lent _ _ _ _ _ r.0 c.loop-r.invariant, r.1, listed-there _ _ r.2 _ less _ (front-at _ _ r.2 _ c.loop-r-test.true))

pub loop-r-preserved : goal.loop-r-preserved
loop-r-preserved c =
    let l = c.requires.2 in
    walks_next _ _ l _ (front-less _ _ l _ c.loop-r-test.true) _ (front-at _ _ l _ c.loop-r-test.true) _ _ _ c.apply.ensures c.loop-r.invariant

pub returns : goal.returns
returns c = listed_ran _ _ c.requires.2 _ _ _ (search rules) c.loop-r.invariant
