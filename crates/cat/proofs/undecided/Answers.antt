use Rattle.std.proofs.Common.{rules}
use Rattle.laws.proofs.TableLaws.{words_of}
use Rattle.inplace.proofs.Parts.{tidy-lengths}
use Rattle.cat.proofs.StepLaws.{gather-start, step-none, step-x, step-y, step-z, step-some}
use Rattle.cat.proofs.undecided.Goals as goal

pub highest-requires : goal.highest-requires
highest-requires c = tidy-lengths _ _ c.requires.tidy-x

pub gather-requires : goal.gather-requires
gather-requires c = (
  c.requires,
  gather-start _ _ _ _ c.requires (words_of c.args.t.now (λ i. search rules)) _ c.highest.ensures _
      c.meets-seen.ensures _ c.low_mask.ensures,
)

pub returns-then-r-eq0 : goal.returns-then-r-eq0
returns-then-r-eq0 c =
    step-none _ _ _ _ c.requires (words_of c.args.t.now (λ i. search rules)) _ c.gather.ensures c.if-r-eq0.true

pub replace-requires : goal.replace-requires
replace-requires c =
    step-x _ _ _ _ c.requires (words_of c.args.t.now (λ i. search rules)) _ c.gather.ensures c.if-r-eq0.false

pub replace-requires-2 : goal.replace-requires-2
replace-requires-2 c =
    step-y _ _ _ _ c.requires (words_of c.args.t.now (λ i. search rules)) _ c.gather.ensures c.if-r-eq0.false _ _ c.replace.ensures

pub replace-requires-3 : goal.replace-requires-3
replace-requires-3 c =
    step-z _ _ _ _ c.requires (words_of c.args.t.now (λ i. search rules)) _ c.gather.ensures c.if-r-eq0.false _ _ c.replace.ensures
    _ _ c.replace-2.ensures

pub returns : goal.returns
returns c =
    step-some _ _ _ _ c.requires (words_of c.args.t.now (λ i. search rules)) _ c.gather.ensures c.if-r-eq0.false _ _
    c.replace.ensures _ _ c.replace-2.ensures _ _ c.replace-3.ensures
