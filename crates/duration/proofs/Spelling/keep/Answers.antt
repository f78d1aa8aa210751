use Rattle.std.proofs.Common.{arith}
use mathlib.Core.Path.{◌≡◌, refl}
use Rattle.inplace.proofs.Writing.{written-turn}
use Rattle.duration.proofs.StretchLaws.{kept_word}
use Rattle.duration.proofs.Spelling.keep.Goals as goal

pub loop-i-preserved : goal.loop-i-preserved
loop-i-preserved c =
    written-turn _ _ _ _ _ _ c.loop-i.invariant (omega arith) _ (kept_word _ _ _ _ _ _ c.loop-i.invariant _ _ c.symbols_at.ensures) _ _ _ c.put-changed.ensures refl

pub returns : goal.returns
returns c =
    let e : c.loop-i.i ≡ c.args.n = omega arith in
    rw e at c.loop-i.invariant
