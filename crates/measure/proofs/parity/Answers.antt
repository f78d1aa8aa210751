use Rattle.measure.proofs.ParityLaws.{filled-whole}
use Rattle.measure.proofs.parity.Goals as goal

pub returns : goal.returns
returns c = filled-whole _ (c.fill.ensures.after (λ y e. e))
