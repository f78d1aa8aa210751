use Rattle.compiler.proofs.TestLaws.{final-start, final-set}
use Rattle.compiler.proofs.is_final.Goals as goal

pub returns-then-i-eq0 : goal.returns-then-i-eq0
returns-then-i-eq0 c = final-start _ _ _ _ c.if-i-eq0.true

pub returns-else-i-eq0 : goal.returns-else-i-eq0
returns-else-i-eq0 c = final-set _ _ _ _ c.if-i-eq0.false (c.type_inv.sets _).fits
