use Rattle.std.proofs.Common.{arith, rules}
use mathlib.Core.Path.{sym, ◌∙◌}
use Rattle.inplace.proofs.Parts.{tidy-lengths}
use Rattle.neq.proofs.WithoutLaws.{without-length, without_all, without-ready, without_shorter}
use Rattle.neq.proofs.WithoutLaws.{without-symbol, without-longer, without-two, without-struck}
use Rattle.neq.proofs.without.Goals as goal
use Rattle.neq.proofs.without.Goals.{then-w-v-eq0-via-then-w-v-eq0, then-w-v-eq0-via-else-w-v-eq0+then-longer-ne0, then-w-v-eq0-via-else-w-v-eq0+else-longer-ne0+then-alike-l}

pub highest-l-requires : goal.highest-l-requires
highest-l-requires c = tidy-lengths _ _ c.requires.tidy-y

pub returns-then-not-has : goal.returns-then-not-has
returns-then-not-has c =
    without-length _ _ _ c.requires (λ i. search rules) _ c.highest-l.ensures (sym c.has.ensures ∙ c.if-not-has.true)

pub returns-then-others-eq0 : goal.returns-then-others-eq0
returns-then-others-eq0 c =
    without_all _ _ _ c.requires (λ i. search rules) _ c.highest-l.ensures
    (sym c.has.ensures ∙ c.if-not-has.false) _ c.singleton.ensures _ c.alike-at.ensures c.if-at-l.true c.if-others-eq0.true

pub shorten-requires : goal.shorten-requires
shorten-requires c =
    without-ready _ _ _ c.requires (λ i. search rules) _ c.highest-l.ensures
    (sym c.has.ensures ∙ c.if-not-has.false) _ c.singleton.ensures _ c.alike-at.ensures c.if-at-l.true c.if-others-eq0.false

pub returns-then-at-l : goal.returns-then-at-l
returns-then-at-l c =
    without_shorter _ _ _ c.requires (λ i. search rules) _ c.highest-l.ensures
    (sym c.has.ensures ∙ c.if-not-has.false) _ c.singleton.ensures _ c.alike-at.ensures c.if-at-l.true _ _ c.shorten.ensures

pub returns-then-w-v-eq0 : goal.returns-then-w-v-eq0
returns-then-w-v-eq0 c = elim c.then-w-v-eq0.branch [
  | then-w-v-eq0-via-then-w-v-eq0 w ↦ without-symbol _ _ _ c.requires (λ i. search rules) _ c.highest-l.ensures
      (sym c.has.ensures ∙ c.if-not-has.false) _ c.singleton.ensures _ c.alike-at.ensures c.if-at-l.false w.if-w-v-eq0.true
  | then-w-v-eq0-via-else-w-v-eq0+then-longer-ne0 w ↦ without-longer _ _ _ c.requires (λ i. search rules) _ c.highest-l.ensures
      (sym c.has.ensures ∙ c.if-not-has.false) _ c.singleton.ensures _ c.alike-at.ensures c.if-at-l.false w.if-longer-ne0.true
  | then-w-v-eq0-via-else-w-v-eq0+else-longer-ne0+then-alike-l w ↦ without-two _ _ _ c.requires (λ i. search rules) _ c.highest-l.ensures
      (sym c.has.ensures ∙ c.if-not-has.false) _ c.singleton.ensures _ c.alike-at.ensures c.if-at-l.false _ w.alike.ensures w.if-alike-l.true
]

pub returns : goal.returns
returns c =
    without-struck _ _ _ c.requires (λ i. search rules) _ c.highest-l.ensures
    (sym c.has.ensures ∙ c.if-not-has.false) _ c.singleton.ensures _ c.alike-at.ensures c.if-at-l.false _ c.alike.ensures c.if-w-v-eq0.false
    c.if-longer-ne0.false (omega arith)
