use Rattle.std.proofs.Common.{rules, refl, ◌*◌, ◌<◌, ◌≡◌, length}
use Rattle.std.proofs.lemmas.Iterator.{cases_from_all, YieldsList-from_range}
use borrow.Author.Tests.{tests}
use Rattle.model.specs.Words.{word}
use Rattle.laws.proofs.TableLaws.{words_of}
use Rattle.rounds.proofs.ValueLaws.{looked, no_length, by_numbers}
use Rattle.rounds.proofs.every_value.Goals as goal

pub returns-then-all : goal.returns-then-all
returns-then-all c P wf es ln st =
    let T = c.args.table.now in
    let s = c.args.s in
    by_numbers T (words_of T (λ i. (c.type_inv.table i).fits)) s P wf es ln st c.all.result _ c.if-all.true
    (looked T (λ x. 64 * x) 0 s _ (cases_from_all _ _ _ (λ x. 0 < word T (64 * x)) (λ x. word T (64 * x) ≡ 0) c.all.ensures.ran (YieldsList-from_range 0 s _ refl refl) (λ x q k. search (rules, tests)) (λ x q k. search (rules, tests))))
    (looked T (λ i. i) (64 * s) (length T) _ (cases_from_all _ _ _ (λ i. 0 < word T i) (λ i. word T i ≡ 0) c.all-then-all.ensures.ran (YieldsList-from_range (64 * s) (length T) _ refl refl) (λ x q k. search (rules, tests)) (λ x q k. search (rules, tests))))

pub returns-else-all : goal.returns-else-all
returns-else-all c P wf es ln st =
    let T = c.args.table.now in
    let s = c.args.s in
    no_length T (words_of T (λ i. (c.type_inv.table i).fits)) s P wf es ln st c.all.result c.if-all.false
    (looked T (λ x. 64 * x) 0 s _ (cases_from_all _ _ _ (λ x. 0 < word T (64 * x)) (λ x. word T (64 * x) ≡ 0) c.all.ensures.ran (YieldsList-from_range 0 s _ refl refl) (λ x q k. search (rules, tests)) (λ x q k. search (rules, tests))))
