use Rattle.std.proofs.Common.{rules}
use Rattle.laws.proofs.TableLaws.{words_of}
use Rattle.steps.proofs.StepLaws.{step-inside, any_none, narrow_asks, any-narrowed}
use Rattle.steps.proofs.narrow_any.Goals as goal

pub tidy-requires : goal.tidy-requires
tidy-requires c =
    step-inside c.args.p.now _ _ (words_of c.args.table.now (λ i. search rules)) (c.requires.0, c.requires.2) _ c.requires.3

pub narrow-requires : goal.narrow-requires
narrow-requires c =
    narrow_asks c.args.p.now _ _ (words_of c.args.table.now (λ i. search rules)) (c.requires.0, c.requires.2) _ c.requires.3 _ _ c.tidy.ensures c.requires.1 c.if-tidy.true

pub returns-then-tidy : goal.returns-then-tidy
returns-then-tidy c = rw c.is_some.ensures
    (any-narrowed c.args.p.now _ _ (words_of c.args.table.now (λ i. search rules)) (c.requires.0, c.requires.2) _ c.requires.3 _ _ c.tidy.ensures _ _ c.narrow.ensures)

pub returns-else-tidy : goal.returns-else-tidy
returns-else-tidy c = rw c.if-tidy.false
    (any_none c.args.p.now _ _ (words_of c.args.table.now (λ i. search rules)) (c.requires.0, c.requires.2) _ c.requires.3 _ _ c.tidy.ensures c.if-tidy.false)
