use Rattle.std.proofs.Common.{rules}
use Rattle.waiting.proofs.StartLaws.{bit-later}
use Rattle.waiting.proofs.next.Goals as goal

pub returns : goal.returns
returns c = bit-later _ _ _ (search rules) c.lowest-2.ensures.here
