use Rattle.std.proofs.Common.{refl, sym, ◌∙◌, rules}
use Rattle.automata.proofs.MachineLaws.{mark-next}
use Rattle.automata.proofs.SetLaws.{walked_start, hit-none, hit-one, hit-skip}
use Rattle.automata.proofs.Automaton.leads.Goals as goal

pub loop-p-init : goal.loop-p-init
loop-p-init c = rw (c.into_iter-p-iterator.ensures.into_iter_gives, c.each_bit-p-items.ensures) (walked_start _ _ _ _ (λ i t x. x.0) (rw c.states.ensures at c.below.ensures))

pub returns-then-has : goal.returns-then-has
returns-then-has c =
    hit-one _ _ _ _ _ c.loop-p.invariant _ _ (search rules) c.in-Some.ensures.steps.0 (mark-next _ c.mark.ensures c.next-in-loop-p.ensures.0)
    (sym c.has.ensures ∙ c.if-has.true)

pub loop-p-preserved : goal.loop-p-preserved
loop-p-preserved c =
    let s = c.in-Some.ensures.steps in
    rw s.1 (hit-skip _ _ _ _ _ c.loop-p.invariant _ _ (search rules) s.0 (mark-next _ c.mark.ensures c.next-in-loop-p.ensures.0) _ refl
    (sym c.has.ensures ∙ c.if-has.false))

pub returns : goal.returns
returns c = hit-none _ _ _ _ _ c.loop-p.invariant c.in-None.ensures.steps.0
