use Rattle.std.proofs.Common.{rules, refl}
use Rattle.laws.proofs.TableLaws.{words_of}
use Rattle.eq.proofs.EqSteps.{eq-empty, eq-none, eq-ready-x, eq-ready-y, eq-some}
use Rattle.eq.proofs.narrow.Goals as goal

pub returns-then-common-eq0 : goal.returns-then-common-eq0
returns-then-common-eq0 c =
    eq-empty _ _ _ c.requires.0 c.requires.1 c.requires.2 (words_of c.args.t.now (λ i. search rules)) c.if-common-eq0.true

pub returns-then-lengths-eq0 : goal.returns-then-lengths-eq0
returns-then-lengths-eq0 c =
    eq-none _ _ _ c.requires.0 c.requires.1 c.requires.2 (words_of c.args.t.now (λ i. search rules)) c.requires.3 c.requires.4 _ _ _ _ _
    c.highest.ensures c.meet-met.ensures _ c.low_mask.ensures c.if-lengths-eq0.true

pub shorten-shorter_x-requires : goal.shorten-shorter_x-requires
shorten-shorter_x-requires c =
    eq-ready-x _ _ _ c.requires.0 c.requires.1 c.requires.2 (words_of c.args.t.now (λ i. search rules)) c.requires.3 c.requires.4 _ _ _ _ _
    c.highest.ensures c.meet-met.ensures _ c.low_mask.ensures c.if-lengths-eq0.false

pub shorten-shorter_y-requires : goal.shorten-shorter_y-requires
shorten-shorter_y-requires c =
    eq-ready-y _ _ _ c.requires.0 c.requires.1 c.requires.2 (words_of c.args.t.now (λ i. search rules)) c.requires.3 c.requires.4 _ _ _ _ _
    c.highest.ensures c.meet-met.ensures _ c.low_mask.ensures _ _ c.shorten-shorter_x.ensures c.if-lengths-eq0.false

pub returns : goal.returns
returns c =
    eq-some _ _ _ c.requires.0 c.requires.1 c.requires.2 (words_of c.args.t.now (λ i. search rules)) c.requires.3 c.requires.4 _ _ _ _ _
    c.highest.ensures c.meet-met.ensures _ c.low_mask.ensures _ _ c.shorten-shorter_x.ensures _ _ c.shorten-shorter_y.ensures _ _ refl refl
