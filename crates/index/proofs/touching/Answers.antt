use Rattle.std.proofs.Common.{rules}
use mathlib.Core.Path.{sym, ap}
use Rattle.model.specs.Words.{word}
use Rattle.index.proofs.WakingLaws.{at-string, at-number}
use Rattle.index.proofs.touching.Goals as goal

pub returns-then-at-s : goal.returns-then-at-s
returns-then-at-s c =
    let a = c.args in
    ap (word a.ix.now) (sym (at-string a.s a.at (search rules)))

pub returns : goal.returns
returns c =
    let a = c.args in
    ap (word a.ix.now) (sym (at-number a.s a.at (search rules)))
