use Rattle.std.proofs.Common.{arith, rules}
use Rattle.laws.proofs.TableLaws.{words_of}
use Rattle.cat.proofs.GatherLaws.{split-room, split-within, split-empty, split-none, split-some}
use Rattle.cat.proofs.split.Goals as goal

pub returns-then-lengths-eq0 : goal.returns-then-lengths-eq0
returns-then-lengths-eq0 c =
    split-empty _ _ _ _ _ _ c.requires.0 (words_of c.args.t.now (λ i. search rules)) c.requires.2 _ c.if-lengths-eq0.true

pub meets-requires : goal.meets-requires
meets-requires c =
    let o = split-room _ _ _ _ _ c.requires.0 _ c.highest.ensures in
    (o.0, o.1)

pub returns-then-kept-eq0 : goal.returns-then-kept-eq0
returns-then-kept-eq0 c =
    split-none _ _ _ _ _ _ c.requires.0 (words_of c.args.t.now (λ i. search rules)) c.requires.2 _ _ c.highest.ensures _
    c.meets.ensures
    _ c.low_mask.ensures c.if-kept-eq0.true

pub add_to_both-requires-2 : goal.add_to_both-requires-2
add_to_both-requires-2 c =
    let o = split-room _ _ _ _ _ c.requires.0 _ c.highest.ensures in
    let l = split-within _ _ _ _ c.highest.ensures c.highest-top.ensures in
    (omega arith, omega arith, omega arith, omega arith)

pub returns : goal.returns
returns c =
    split-some _ _ _ _ _ _ c.requires.0 (words_of c.args.t.now (λ i. search rules)) c.requires.2 _ _ c.highest.ensures _
    c.meets.ensures _ c.low_mask.ensures _ c.highest-top.ensures _ c.singleton.ensures _ _ _ _ c.add_to_both.ensures.0 c.add_to_both.ensures.1 c.add_to_both-2.ensures.0 c.add_to_both-2.ensures.1
