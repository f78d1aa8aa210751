use Rattle.std.proofs.Common.{arith}
use mathlib.Core.Path.{◌≡◌, refl}
use native.Mathlib.Numerals.{add-one}
use Rattle.inplace.proofs.Writing.{written-turn}
use Rattle.inplace.proofs.write.Goals as goal

pub loop-i-preserved : goal.loop-i-preserved
loop-i-preserved c = written-turn _ _ _ _ _ _ c.loop-i.invariant (omega arith) _ (rw add-one refl) _ _ _ c.put-changed.ensures refl

pub returns : goal.returns
returns c =
    let e : c.loop-i.i ≡ c.args.n = omega arith in
    rw e at c.loop-i.invariant
