use Rattle.list.proofs.ListedLaws.{trim-inside, step-constraint, step-trim}
use Rattle.list.proofs.step.Goals as goal

pub trim-requires : goal.trim-requires
trim-requires c = trim-inside c.args.p.now _ c.requires.0 _ c.requires.1 c.if-j-p.false

pub returns-then-j-p : goal.returns-then-j-p
returns-then-j-p c = step-constraint c.args.p.now _ c.requires.0 _ c.requires.1 c.if-j-p.true c.lent_step.ensures

pub returns-else-j-p : goal.returns-else-j-p
returns-else-j-p c = step-trim c.args.p.now _ c.requires.0 _ c.requires.1 c.if-j-p.false c.trim.ensures
