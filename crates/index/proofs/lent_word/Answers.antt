use Rattle.index.proofs.LentLaws.{lent-made}
use Rattle.index.proofs.lent_word.Goals as goal

pub returns : goal.returns
returns c =
    lent-made c.args.p.now c.args.ix.now _ _ _ c.requires.0 c.constraints_half.ensures c.trimming_half.ensures c.requires.1
