use Rattle.std.proofs.Common.{refl, rules}
use Rattle.automata.proofs.MachineLaws.{mark-next}
use Rattle.automata.proofs.SetLaws.{walked_start, walked_end}
use Rattle.automata.proofs.TargetLaws.{by-skip, by-add}
use Rattle.automata.proofs.Automaton.by.Goals as goal

pub loop-a-init : goal.loop-a-init
loop-a-init c = rw (c.into_iter-a-iterator.ensures.into_iter_gives, c.each_bit-a-items.ensures) (search rules, walked_start _ _ _ _ (λ i t x. x.1) c.below.ensures)

pub loop-a-preserved-then-has : goal.loop-a-preserved-then-has
loop-a-preserved-then-has c =
    let g = c.loop-a.invariant in
    let s = c.in-Some.ensures.steps in
    let e = mark-next _ c.mark.ensures c.next-in-loop-a.ensures.0 in
    rw s.1 (g.0, by-add _ _ _ _ _ _ _ _ _ _ _ _ g.1 s.0 refl g.0 e c.has.ensures _ c.if-has.true c.singleton-r.ensures refl)

pub loop-a-preserved : goal.loop-a-preserved
loop-a-preserved c =
    let g = c.loop-a.invariant in
    let s = c.in-Some.ensures.steps in
    let e = mark-next _ c.mark.ensures c.next-in-loop-a.ensures.0 in
    rw s.1 (g.0, by-skip _ _ _ _ _ _ _ _ _ _ _ _ g.1 s.0 refl g.0 e c.has.ensures c.if-has.false refl)

pub returns : goal.returns
returns c = walked_end _ _ _ _ _ c.in-None.ensures.steps.0 c.loop-a.invariant.1
