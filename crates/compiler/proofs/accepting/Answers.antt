use Rattle.std.proofs.Common.{refl}
use Rattle.numbering.specs.Exploring.{joined}
use Rattle.numbering.proofs.JoinLaws.{joined_step}
use Rattle.compiler.proofs.accepting.Goals as goal

pub loop-i-init : goal.loop-i-init
unfolding joined
loop-i-init c = refl

pub loop-i-preserved : goal.loop-i-preserved
loop-i-preserved c = joined_step _ _ _ _ c.loop-i.invariant c.final_bit-r.ensures
