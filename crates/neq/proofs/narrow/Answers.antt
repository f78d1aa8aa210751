use Rattle.std.proofs.Common.{rules}
use mathlib.Core.Path.{sym, ◌∙◌}
use Rattle.laws.proofs.TableLaws.{words_of}
use Rattle.laws.proofs.ListLaws.{not_false, not_true}
use Rattle.neq.proofs.WithoutLaws.{neq-several, neq-first, neq_first-none, neq-second, neq_second-none}
use Rattle.neq.proofs.narrow.Goals as goal

pub returns-in_ok-changed : goal.returns-in_ok-changed
returns-in_ok-changed c =
    neq-first _ _ _ c.requires.0 c.requires.1 c.requires.2 c.requires.3 c.requires.4 (words_of c.args.t.now (λ i. search rules))
    (not_true _ (sym c.one_string.ensures ∙ c.if-one_string.true)) _ _ c.in_ok-changed.ensures

pub returns-in_err-changed : goal.returns-in_err-changed
returns-in_err-changed c = rw c.from_residual.ensures
    (neq_first-none _ _ _ c.requires.0 c.requires.1 c.requires.2 c.requires.3 c.requires.4 (words_of c.args.t.now (λ i. search rules)) _ c.in_err-changed.ensures)

pub returns-in_ok-changed-2 : goal.returns-in_ok-changed-2
returns-in_ok-changed-2 c =
    neq-second _ _ _ c.requires.0 c.requires.1 c.requires.2 c.requires.3 c.requires.4 (words_of c.args.t.now (λ i. search rules))
    (not_true _ (sym c.one_string-else-one_string.ensures ∙ c.if-one_string-2.true)) _ _ c.in_ok-changed-2.ensures

pub returns-in_err-changed-2 : goal.returns-in_err-changed-2
returns-in_err-changed-2 c = rw c.from_residual-in_err-changed-2.ensures
    (neq_second-none _ _ _ c.requires.0 c.requires.1 c.requires.2 c.requires.3 c.requires.4 (words_of c.args.t.now (λ i. search rules)) _ c.in_err-changed-2.ensures)

pub returns-else-one_string-2 : goal.returns-else-one_string-2
returns-else-one_string-2 c =
    neq-several _ _ _ c.requires.0 c.requires.1 c.requires.2 c.requires.3 c.requires.4 (words_of c.args.t.now (λ i. search rules))
    (not_false _ (sym c.one_string-else-one_string.ensures ∙ c.if-one_string-2.false)) (not_false _ (sym c.one_string.ensures ∙ c.if-one_string.false))
