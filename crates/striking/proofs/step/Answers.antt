use Rattle.std.proofs.Common.{rules}
use Rattle.laws.proofs.TableLaws.{words_of}
use Rattle.striking.proofs.FileLaws.{trim_asks, step-trims, constraint_asks, step_constrains}
use Rattle.striking.proofs.step.Goals as goal

pub trim-requires : goal.trim-requires
trim-requires c =
    trim_asks c.args.p.now _ _ _ (words_of c.args.table.now (λ i. search rules)) (c.requires.0, c.requires.2, c.requires.3) c.if-j-p.true

pub returns-then-j-p-clause-strikes : goal.returns-then-j-p-clause-strikes
returns-then-j-p-clause-strikes c =
    (step-trims c.args.p.now _ _ _ (words_of c.args.table.now (λ i. search rules)) (c.requires.0, c.requires.2, c.requires.3) c.if-j-p.true c.trim.ensures).0

pub returns-then-j-p-clause-trimmed_in : goal.returns-then-j-p-clause-trimmed_in
returns-then-j-p-clause-trimmed_in c =
    (step-trims c.args.p.now _ _ _ (words_of c.args.table.now (λ i. search rules)) (c.requires.0, c.requires.2, c.requires.3) c.if-j-p.true c.trim.ensures).1

pub constraint-requires-2 : goal.constraint-requires-2
constraint-requires-2 c =
    constraint_asks c.args.p.now _ _ _ (words_of c.args.table.now (λ i. search rules)) (c.requires.0, c.requires.2, c.requires.3) c.if-j-p.false _ c.constraint.ensures c.requires.1

pub returns-clause-strikes : goal.returns-clause-strikes
returns-clause-strikes c =
    step_constrains c.args.p.now _ _ _ (words_of c.args.table.now (λ i. search rules)) (c.requires.0, c.requires.2, c.requires.3) c.if-j-p.false _ c.constraint.ensures c.constraint-2.ensures.strikes
