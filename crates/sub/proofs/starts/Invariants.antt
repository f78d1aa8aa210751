use Rattle.model.specs.Domains.{row}
use Rattle.sub.specs.Substrings.{Started}
use Rattle.sub.proofs.starts.Given as goal

abbrev pub invariant-loop-off : goal.invariant-loop-off
invariant-loop-off l = Started (row l.t l.x) (row l.t l.y) l.n l.bounds.least l.bounds.longest l.off-iterator.rest l.found l.r
