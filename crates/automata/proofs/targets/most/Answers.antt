use Rattle.std.proofs.Common.{rules}
use Rattle.automata.proofs.TargetLaws.{most-total, most-marked}
use Rattle.std.proofs.Common.{rules}
use Rattle.automata.proofs.targets.most.Goals as goal

pub returns-then-symbols-lacking-eq0 : goal.returns-then-symbols-lacking-eq0
returns-then-symbols-lacking-eq0 c = most-total _ _ _ _ (search rules) c.if-symbols-lacking-eq0.true c.low_mask-all.ensures

pub returns : goal.returns
returns c = most-marked _ _ _ _ _ (search rules) c.singleton.ensures c.low_mask-all.ensures
