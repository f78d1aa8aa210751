use Rattle.parser.proofs.ReadLaws.{text-bad, text-whole, text-more}
use Rattle.parser.proofs.read_text.Goals as goal

pub returns-in_err-a : goal.returns-in_err-a
returns-in_err-a c = rw c.from_residual.ensures (text-bad _ _ _ _ c.pattern.ensures.says c.in_err-a.was)

pub returns-then-a-s : goal.returns-then-a-s
returns-then-a-s c = text-whole _ _ _ _ c.pattern.ensures.says _ c.in_ok-a.was c.if-a-s.true

pub returns-else-a-s : goal.returns-else-a-s
returns-else-a-s c = text-more _ _ _ _ c.pattern.ensures.says _ c.in_ok-a.was c.if-a-s.false
