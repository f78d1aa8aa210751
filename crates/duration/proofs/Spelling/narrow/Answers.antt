use Rattle.std.proofs.Common.{rules}
use mathlib.Core.Path.{refl}
use Rattle.laws.proofs.TableLaws.{words_of}
use Rattle.inplace.proofs.Parts.{tidy-lengths}
use Rattle.duration.proofs.DurationSteps.{spells_none, spells_ready, spells_left}
use Rattle.duration.proofs.Spelling.narrow.Goals as goal

pub highest-lim-requires : goal.highest-lim-requires
highest-lim-requires c = tidy-lengths _ _ c.requires.1

pub returns-then-lengths-eq0 : goal.returns-then-lengths-eq0
returns-then-lengths-eq0 c =
    spells_none _ _ c.requires.0 (words_of c.args.t.now (λ i. search rules)) c.requires.1 _ _ _ _ _ _
    c.highest-lim.ensures c.stretch-whole.ensures c.fraction-end.ensures c.lengths-lengths.ensures c.if-lengths-eq0.true

pub shorten-changed-requires : goal.shorten-changed-requires
shorten-changed-requires c =
    spells_ready _ _ c.requires.0 (words_of c.args.t.now (λ i. search rules)) c.requires.1 _ _ _ _ _ _
    c.highest-lim.ensures c.stretch-whole.ensures c.fraction-end.ensures c.lengths-lengths.ensures c.if-lengths-eq0.false _ c.longest-low.ensures _ c.highest.ensures
    _ _ c.keep-changed.ensures

pub returns : goal.returns
returns c =
    spells_left _ _ c.requires.0 (words_of c.args.t.now (λ i. search rules)) c.requires.1 _ _ _ _ _ _
    c.highest-lim.ensures c.stretch-whole.ensures c.fraction-end.ensures c.lengths-lengths.ensures c.if-lengths-eq0.false _ c.longest-low.ensures _ c.highest.ensures
    _ _ c.keep-changed.ensures _ _ c.shorten-changed.ensures _ refl
