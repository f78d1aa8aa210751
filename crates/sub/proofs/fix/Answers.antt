use Rattle.std.proofs.Common.{arith, rules}
use mathlib.Core.Path.{refl}
use Rattle.sub.proofs.Turns.{write-turn, write-end}
use Rattle.sub.proofs.Steps.{fix-word}
use Rattle.sub.proofs.fix.Goals as goal

pub loop-i-preserved : goal.loop-i-preserved
loop-i-preserved c =
    write-turn _ _ _ _ _ _ _ _ c.loop-i.invariant (search rules) (search rules) (search rules) _
    (fix-word _ _ _ _ _ _ c.requires _ _ _ c.loop-i.invariant (search rules) (search rules) _ c.over.ensures) _ _ _ c.put-changed.ensures refl

pub returns : goal.returns
returns c = write-end _ _ _ _ _ _ _ _ (omega arith) c.loop-i.invariant
