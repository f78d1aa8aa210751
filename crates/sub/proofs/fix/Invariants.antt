use Prim.Native.Nat.{◌*◌}
use Rattle.model.specs.Domains.{row}
use Rattle.sub.specs.Substrings.{Fixed, Written}
use Rattle.sub.proofs.fix.Given as goal

abbrev pub invariant-loop-i : goal.invariant-loop-i
invariant-loop-i l = Written (Fixed (row l.initial.t l.x) (row l.initial.t l.y) l.n) l.initial.t (64 * l.x) l.from l.to l.i l.t l.changed
