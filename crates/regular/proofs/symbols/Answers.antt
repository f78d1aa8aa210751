use Rattle.std.proofs.Common.{refl}
use Rattle.automata.proofs.SetLaws.{walked_start, walked_end}
use Rattle.regular.proofs.RegularLaws.{symbols-skip, symbols-add}
use Rattle.regular.proofs.symbols.Goals as goal

pub loop-s-init : goal.loop-s-init
loop-s-init c = rw (c.into_iter-s-iterator.ensures.into_iter_gives, c.each_bit-s-items.ensures) (walked_start _ _ _ _ (λ i t x. x.1) c.below.ensures)

pub loop-s-preserved-then-leads : goal.loop-s-preserved-then-leads
loop-s-preserved-then-leads c =
    let s = c.in-Some.ensures.steps in
    rw s.1 (symbols-add _ _ _ _ _ _ _ _ _ _ _ _ c.loop-s.invariant s.0 refl c.leads.ensures _ c.if-leads.true c.singleton-r.ensures refl)

pub loop-s-preserved : goal.loop-s-preserved
loop-s-preserved c =
    let s = c.in-Some.ensures.steps in
    rw s.1 (symbols-skip _ _ _ _ _ _ _ _ _ _ _ _ c.loop-s.invariant s.0 refl c.leads.ensures c.if-leads.false refl)

pub returns : goal.returns
returns c = walked_end _ _ _ _ _ c.in-None.ensures.steps.0 c.loop-s.invariant
