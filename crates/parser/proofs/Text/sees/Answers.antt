use Rattle.std.proofs.Common.{arith, ◌∙◌}
use Rattle.parser.proofs.Bytes.{sees-get}
use Rattle.parser.proofs.Text.sees.Goals as goal

pub returns : goal.returns
returns c = let h = c.get.ensures.lookup in c.eq.ensures ∙ sees-get _ _ _ c.get.result h.0 (h.4 (omega arith) 0)
