use Rattle.std.proofs.Common.{rules}
use Rattle.laws.proofs.TableLaws.{words_of}
use Rattle.rev.proofs.RevSteps.{rev-none, any-first, any-second, any_left}
use Rattle.rev.proofs.any_length.Goals as goal

pub returns-then-of_x-eq0 : goal.returns-then-of_x-eq0
returns-then-of_x-eq0 c =
    rev-none _ _ _ _ c.requires (words_of c.args.t.now (λ i. search rules)) _ c.half.ensures c.if-of_x-eq0.true

pub replace-requires : goal.replace-requires
replace-requires c =
    any-first _ _ _ _ c.requires (words_of c.args.t.now (λ i. search rules)) _ c.half.ensures c.if-of_x-eq0.false _ c.half-2.ensures

pub replace-requires-2 : goal.replace-requires-2
replace-requires-2 c =
    any-second _ _ _ _ c.requires (words_of c.args.t.now (λ i. search rules)) _ c.half.ensures c.if-of_x-eq0.false _ c.half-2.ensures _ _
    c.replace.ensures

pub returns : goal.returns
returns c =
    any_left _ _ _ _ c.requires (words_of c.args.t.now (λ i. search rules)) _ c.half.ensures c.if-of_x-eq0.false _ c.half-2.ensures _ _
    c.replace.ensures _ _ c.replace-2.ensures
