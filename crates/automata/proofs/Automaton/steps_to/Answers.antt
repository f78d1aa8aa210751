use Rattle.std.proofs.Common.{refl}
use Rattle.automata.proofs.SetLaws.{walked_start, walked_end, successors-add, successors-end}
use Rattle.automata.proofs.TargetLaws.{successors-all}
use Rattle.automata.proofs.Automaton.steps_to.Goals as goal

pub loop-p-init : goal.loop-p-init
loop-p-init c = rw (c.into_iter-p-iterator.ensures.into_iter_gives, c.each_bit-p-items.ensures) (walked_start _ _ _ _ (λ i t x. x.0) (rw c.states-q.ensures at c.below.ensures), c.requires.1)

pub returns-then-r-all : goal.returns-then-r-all
returns-then-r-all c =
    let l = c.loop-p in (
      successors-all _ _ c.args.self.whole _ _ _ c.requires.0 _ _ _ (successors-add _ _ _ _ _ _ _ _ _ _ l.invariant.0 c.in-Some.ensures.steps.0 refl c.asked-r.ensures.0)
          (rw c.states-q.ensures at c.most-all.ensures) c.if-r-all.true,
      c.asked-r.ensures.1,
    )

pub loop-p-preserved : goal.loop-p-preserved
loop-p-preserved c =
    let s = c.in-Some.ensures.steps in
    rw s.1 (successors-add _ _ _ _ _ _ _ _ _ _ c.loop-p.invariant.0 s.0 refl c.asked-r.ensures.0, c.asked-r.ensures.1)

pub returns : goal.returns
returns c =
    let l = c.loop-p in
    (successors-end _ _ _ _ _ _ (walked_end _ _ _ _ _ c.in-None.ensures.steps.0 l.invariant.0), l.invariant.1)
