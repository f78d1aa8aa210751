use Rattle.std.proofs.Common.{arith}
use Rattle.numbering.proofs.ListedLaws.{number-most}
use Rattle.compiler.proofs.write_rows.Goals as goal

pub overflow_cast-cell : goal.overflow_cast-cell
overflow_cast-cell c = let l = number-most _ _ _ _ c.move_of-p.ensures in omega arith
