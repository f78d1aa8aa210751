use Rattle.std.proofs.Common.{rules}
use Rattle.queue.proofs.PlaceLaws.{without-here}
use Rattle.queue.proofs.without.Goals as goal

pub returns-then-j-half : goal.returns-then-j-half
returns-then-j-half c = without-here _ _ _ _ c.singleton.ensures (search rules)
