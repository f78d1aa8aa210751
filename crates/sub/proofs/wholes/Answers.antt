use Rattle.std.proofs.Common.{rules}
use mathlib.Core.Path.{refl}
use Rattle.laws.proofs.TableLaws.{words_of}
use Rattle.sub.proofs.Steps.{wholes-ready, wholes-right}
use Rattle.sub.proofs.wholes.Goals as goal

pub shorten-changed-requires : goal.shorten-changed-requires
shorten-changed-requires c =
    let words = words_of c.args.t.now (λ i. search rules) in
    wholes-ready c.args.t.now words _ _ _ _ c.requires _ _ c.lowest-first.ensures c.highest.ensures _
    refl _ _ c.fix-changed.ensures

pub returns : goal.returns
returns c =
    let words = words_of c.args.t.now (λ i. search rules) in
    wholes-right c.args.t.now words _ _ _ _ c.requires _ _ c.lowest-first.ensures c.highest.ensures _
    refl _ _
    c.fix-changed.ensures _ _ c.shorten-changed.ensures _ refl
