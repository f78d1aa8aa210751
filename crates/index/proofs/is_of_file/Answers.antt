use Rattle.std.proofs.Common.{arith, rules, refl, sym, ◌∙◌, ◌≡◌, ◌≢◌, length}
use Rattle.std.proofs.lemmas.Iterator.{YieldsList-from_range, cases_from_all}
use Rattle.model.specs.Words.{word}
use Rattle.model.specs.StepIndex.{index_of}
use Rattle.format.specs.Problems.{the_problem}
use Rattle.index.proofs.LentLaws.{lent_length, same_by}
use Rattle.index.proofs.is_of_file.Goals as goal

pub returns : goal.returns
returns c =
    let p = c.args.p.now in
    let I = c.args.index.now in
    same_by I (index_of (the_problem p)) _ (c.requires ∙ sym (lent_length p))
    (cases_from_all _ _ _ (λ i. word I i ≡ word (index_of (the_problem p)) i) (λ i. word I i ≢ word (index_of (the_problem p)) i) c.all.ensures.ran
    (YieldsList-from_range 0 (length I) (length I) refl (omega arith))
    (λ x q k. search rules) (λ x q k. search rules))
