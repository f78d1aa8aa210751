use Rattle.numbering.proofs.StandLaws.{visit-past, visit-taken}
use Rattle.numbering.proofs.Letters.visit.Goals as goal

pub returns-then-states-i : goal.returns-then-states-i
returns-then-states-i c = visit-past _ _ _ _ _ _ _ c.if-states-i.true

pub returns : goal.returns
returns c = rw (visit-taken _ _ _ _ _ _ _ c.if-states-i.false) c.take_state.ensures
