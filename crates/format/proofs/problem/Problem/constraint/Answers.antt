use Rattle.std.proofs.Common.{rules}
use Rattle.format.proofs.ContentLaws.{constraint-there, constraint-is}
use Rattle.format.proofs.problem.Problem.constraint.Goals as goal

pub unwrap-requires : goal.unwrap-requires
unwrap-requires c = constraint-there _ _ c.args.self.now.usable _ _ (rw c.constraint_bytes.ensures at c.at.ensures) (search rules)

pub returns : goal.returns
returns c = constraint-is _ _ c.args.self.now.usable _ _ (rw c.constraint_bytes.ensures at c.at.ensures) (search rules) _ c.unwrap.ensures
