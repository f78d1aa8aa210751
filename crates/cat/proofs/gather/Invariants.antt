use Rattle.cat.specs.Gathering.{Gathered}
use Rattle.cat.proofs.gather.Given as goal

abbrev pub invariant-loop-p : goal.invariant-loop-p
invariant-loop-p l = Gathered l.t l.x l.y l.z l.p-iterator.rest l.last l.r
