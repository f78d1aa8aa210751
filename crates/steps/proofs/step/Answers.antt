use Rattle.std.proofs.Common.{arith, rules}
use Rattle.laws.proofs.TableLaws.{words_of}
use Rattle.steps.proofs.StepLaws.{step-inside, narrowed-inside, narrowed-fewer, narrowed-counted}
use Rattle.steps.proofs.step.Goals as goal

pub count-before-requires : goal.count-before-requires
count-before-requires c =
    step-inside c.args.p.now _ _ (words_of c.args.table.now (λ i. search rules)) c.requires _ c.of_record-m.ensures

pub count-requires : goal.count-requires
count-requires c =
    narrowed-inside c.args.p.now _ _ (words_of c.args.table.now (λ i. search rules)) c.requires _ c.of_record-m.ensures _ c.apply.ensures

pub overflow_sub-result : goal.overflow_sub-result
overflow_sub-result c =
    let f = narrowed-fewer c.args.p.now _ _ (words_of c.args.table.now (λ i. search rules)) c.requires _ c.of_record-m.ensures _ c.apply.ensures in
    let x = c.count-before.ensures in
    let y = c.count.ensures in
    omega arith

pub returns : goal.returns
returns c =
    let x = c.count-before.ensures in
    let y = c.count.ensures in
    narrowed-counted c.args.p.now _ _ (words_of c.args.table.now (λ i. search rules)) c.requires _ c.of_record-m.ensures _ c.apply.ensures _ (omega arith)
