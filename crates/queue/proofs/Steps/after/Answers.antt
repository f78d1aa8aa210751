use Rattle.queue.proofs.PlaceLaws.{left-and-joined}
use Rattle.queue.proofs.Steps.after.Goals as goal

pub returns : goal.returns
returns c = left-and-joined c.without.ensures c.without-2.ensures
