use Rattle.std.proofs.Common.{arith, rules}
use mathlib.Core.Path.{◌≡◌, refl, sym, ◌∙◌}
use Rattle.inplace.proofs.Loops.{meet-turn, met-word}
use Rattle.inplace.proofs.meet.Goals as goal

pub returns-then-w-eq0 : goal.returns-then-w-eq0
returns-then-w-eq0 c =
    record { small = omega arith; stop = λ h. sym (met-word _ _ _ _ _ _ _ _ c.loop-m.invariant h (search rules)) ∙ c.if-w-eq0.true; done = c.loop-m.invariant }

pub loop-m-preserved : goal.loop-m-preserved
loop-m-preserved c =
    meet-turn _ _ _ c.args.lim _ _ _ _ c.loop-m.invariant (search rules) (search rules) _ refl (search rules) (search rules) (search rules) _ _ _ _ _ _ c.put-x.ensures refl c.put-y.ensures refl

pub returns : goal.returns
returns c =
    let e : c.loop-m.m ≡ c.args.lim = omega arith in
    record { small = omega arith; stop = λ h. absurd (omega arith); done = rw e at c.loop-m.invariant }
