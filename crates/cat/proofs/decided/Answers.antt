use Rattle.std.proofs.Common.{arith, rules}
use Rattle.laws.proofs.TableLaws.{words_of}
use Rattle.cat.proofs.SplitLaws.{one-allowed, cat-empty, cat-short, cat-apart, cat-none, cat-ready-y, cat-ready-z, cat-some}
use Rattle.cat.proofs.decided.Goals as goal

pub returns-then-lengths-eq0 : goal.returns-then-lengths-eq0
returns-then-lengths-eq0 c =
    cat-empty _ _ _ _ _ c.requires.strings c.requires.small (one-allowed _ _ c.requires.one) (words_of c.args.t.now (λ i. search rules))
    c.requires.one c.if-lengths-eq0.true

pub returns-then-u-p : goal.returns-then-u-p
returns-then-u-p c =
    cat-short _ _ _ _ _ c.requires.strings c.requires.small (one-allowed _ _ c.requires.one) (words_of c.args.t.now (λ i. search rules))
    c.requires.one _ _ _ _ c.meet-u.ensures c.if-u-p.true

pub meet-v-requires : goal.meet-v-requires
meet-v-requires c =
    cat-apart _ _ _ _ _ c.requires.strings c.requires.small (one-allowed _ _ c.requires.one) (words_of c.args.t.now (λ i. search rules))
    c.requires.one _ _ _ _ c.meet-u.ensures (let l = c.if-u-p.false in omega arith) _ c.highest.ensures

pub returns-then-kept-eq0 : goal.returns-then-kept-eq0
returns-then-kept-eq0 c =
    cat-none _ _ _ _ _ c.requires.strings c.requires.small (one-allowed _ _ c.requires.one) (words_of c.args.t.now (λ i. search rules))
    c.requires.one _ _ _ _ c.meet-u.ensures (let l = c.if-u-p.false in omega arith) _ c.highest.ensures _ _ _ _ c.meet-v.ensures _
    c.low_mask.ensures c.if-kept-eq0.true

pub shorten-requires : goal.shorten-requires
shorten-requires c =
    cat-ready-y _ _ _ _ _ c.requires.strings c.requires.small (one-allowed _ _ c.requires.one) (words_of c.args.t.now (λ i. search rules))
    c.requires.one _ _ _ _ c.meet-u.ensures (let l = c.if-u-p.false in omega arith) _ c.highest.ensures _ _ _ _ c.meet-v.ensures _
    c.low_mask.ensures c.if-kept-eq0.false

pub shorten-requires-2 : goal.shorten-requires-2
shorten-requires-2 c =
    cat-ready-z _ _ _ _ _ c.requires.strings c.requires.small (one-allowed _ _ c.requires.one) (words_of c.args.t.now (λ i. search rules))
    c.requires.one _ _ _ _ c.meet-u.ensures (let l = c.if-u-p.false in omega arith) _ c.highest.ensures _ _ _ _ c.meet-v.ensures _
    c.low_mask.ensures _ _ c.shorten.ensures

pub returns : goal.returns
returns c =
    cat-some _ _ _ _ _ c.requires.strings c.requires.small (one-allowed _ _ c.requires.one) (words_of c.args.t.now (λ i. search rules))
    c.requires.one _ _ _ _ c.meet-u.ensures (let l = c.if-u-p.false in omega arith) _ c.highest.ensures _ _ _ _ c.meet-v.ensures _
    c.low_mask.ensures _ _ c.shorten.ensures _ _ c.shorten-2.ensures
