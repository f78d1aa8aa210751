use Rattle.waiting.proofs.BeginLaws.{ready-whole, ready-text}
use Rattle.waiting.proofs.ready.Goals as goal

pub returns-in_default : goal.returns-in_default
returns-in_default c = ready-whole _ _ _ c.in_default.is c.tidy_all.ensures

pub returns-then-at-s : goal.returns-then-at-s
returns-then-at-s c = ready-text _ _ _ _ c.in-Some.is c.if-at-s.true c.requires c.tidy.ensures
