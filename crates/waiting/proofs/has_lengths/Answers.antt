use Rattle.std.proofs.Common.{rules, refl, ◌*◌, ◌<◌, ◌≡◌}
use Rattle.std.proofs.lemmas.Iterator.{cases_from_all, YieldsList-from_range}
use borrow.Author.Tests.{tests}
use Rattle.model.specs.Words.{word}
use Rattle.rounds.proofs.ValueLaws.{looked}
use Rattle.waiting.proofs.BeginLaws.{lengths-looked}
use Rattle.waiting.proofs.has_lengths.Goals as goal

pub returns : goal.returns
returns c =
    let T = c.args.table.now in
    lengths-looked _ (looked T (λ x. 64 * x) 0 c.args.s _ (cases_from_all _ _ _ (λ x. 0 < word T (64 * x)) (λ x. word T (64 * x) ≡ 0) c.all.ensures.ran (YieldsList-from_range 0 c.args.s _ refl refl) (λ x q k. search (rules, tests)) (λ x q k. search (rules, tests))))
