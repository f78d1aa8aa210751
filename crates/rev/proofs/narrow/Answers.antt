use Rattle.std.proofs.Common.{rules}
use mathlib.Core.Path.{sym, ◌∙◌}
use Rattle.laws.proofs.TableLaws.{words_of}
use Rattle.rev.proofs.RevSteps.{pair_of, rev-empty}
use Rattle.rev.proofs.narrow.Goals as goal

pub returns-then-common-eq0 : goal.returns-then-common-eq0
returns-then-common-eq0 c =
    rev-empty _ _ _ c.requires.0 c.requires.1 (words_of c.args.t.now (λ i. search rules)) c.if-common-eq0.true

pub any_length-requires : goal.any_length-requires
any_length-requires c =
    let n = c.if-common-eq0.false in
    pair_of _ _ _ c.requires n

pub one_length-requires : goal.one_length-requires
one_length-requires c =
    let n = c.if-common-eq0.false in
    (pair_of _ _ _ c.requires n, sym c.several.ensures ∙ c.if-several.false)
