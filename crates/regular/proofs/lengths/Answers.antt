use Rattle.std.proofs.Common.{refl, arith, rules}
use Rattle.automata.proofs.SetLaws.{low-all, walked_start, walked_end}
use Rattle.regular.proofs.RegularLaws.{lengths-skip, lengths-add}
use Rattle.regular.proofs.lengths.Goals as goal

pub loop-l-init : goal.loop-l-init
loop-l-init c = rw (c.into_iter-l-iterator.ensures.into_iter_gives, c.each_bit-l-items.ensures) (walked_start _ _ _ _ (λ i t x. x.1) (low-all 64 _ (omega arith) (omega arith) (search rules)))

pub loop-l-preserved-then-accepting-before-ne0 : goal.loop-l-preserved-then-accepting-before-ne0
loop-l-preserved-then-accepting-before-ne0 c =
    let s = c.in-Some.ensures.steps in
    rw s.1 (lengths-add _ _ c.args.before.now _ _ _ _ _ c.loop-l.invariant s.0 refl _ (search rules) c.if-accepting-before-ne0.true c.singleton-r.ensures refl)

pub loop-l-preserved : goal.loop-l-preserved
loop-l-preserved c =
    let s = c.in-Some.ensures.steps in
    rw s.1 (lengths-skip _ _ c.args.before.now _ _ _ _ _ c.loop-l.invariant s.0 refl c.if-accepting-before-ne0.false refl)

pub returns : goal.returns
returns c = walked_end _ _ _ _ _ c.in-None.ensures.steps.0 c.loop-l.invariant
