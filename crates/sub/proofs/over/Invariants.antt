use Rattle.sub.specs.Substrings.{Over}
use Rattle.sub.proofs.over.Given as goal

abbrev pub invariant-loop-off : goal.invariant-loop-off
invariant-loop-off l = Over l.t l.b l.n l.i l.off-iterator.rest l.w
