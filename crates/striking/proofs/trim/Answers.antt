use Rattle.striking.proofs.TrimmingLaws.{trimming_counted}
use Rattle.striking.proofs.trim.Goals as goal

pub returns : goal.returns
returns c = trimming_counted _ _ _ _ _ _ c.trim-n.ensures c.singleton.ensures
