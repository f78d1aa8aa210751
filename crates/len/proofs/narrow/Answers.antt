use Rattle.std.proofs.Common.{rules}
use Rattle.laws.proofs.TableLaws.{words_of}
use Rattle.len.proofs.LenSteps.{len-none, len-ready, len-some}
use Rattle.len.proofs.narrow.Goals as goal

pub returns-then-lengths-eq0 : goal.returns-then-lengths-eq0
returns-then-lengths-eq0 c =
    len-none _ _ _ c.requires.0 c.requires.1 (words_of c.args.t.now (λ i. search rules)) (search rules)
    c.requires.2 c.if-lengths-eq0.true

pub shorten-shorter-requires : goal.shorten-shorter-requires
shorten-shorter-requires c =
    len-ready _ _ _ c.requires.0 c.requires.1 (words_of c.args.t.now (λ i. search rules)) (search rules)
    c.requires.2 _ _ c.put-fewer.ensures c.if-lengths-eq0.false

pub returns : goal.returns
returns c =
    len-some _ _ _ c.requires.0 c.requires.1 (words_of c.args.t.now (λ i. search rules)) (search rules)
    c.requires.2 _ _ c.put-fewer.ensures _ _ c.shorten-shorter.ensures
