use Rattle.std.proofs.Common.{rules}
use Rattle.inplace.proofs.Loops.{cleared_by}
use Rattle.inplace.proofs.clear.Goals as goal

pub returns : goal.returns
returns c = cleared_by _ _ _ _ (search rules) (search rules) _ (c.fill.ensures.after (λ y e. e))
