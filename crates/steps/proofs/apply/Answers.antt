use Rattle.std.proofs.Common.{rules}
use Rattle.laws.proofs.TableLaws.{words_of}
use Rattle.steps.proofs.StepLaws.{left-inside, left-cleared}
use Rattle.steps.proofs.apply.Goals as goal

pub clear-requires : goal.clear-requires
clear-requires c =
    left-inside c.args.p.now _ _ (words_of c.args.table.now (λ i. search rules)) (c.requires.0, c.requires.2) _ c.of_record-m.ensures _ _ c.narrow_any.ensures

pub returns-then-not-narrow_any : goal.returns-then-not-narrow_any
returns-then-not-narrow_any c =
    left-cleared c.args.p.now _ _ (words_of c.args.table.now (λ i. search rules)) (c.requires.0, c.requires.2) _ c.of_record-m.ensures _ _ c.narrow_any.ensures (c.if-not-narrow_any.true) _ c.clear.ensures
