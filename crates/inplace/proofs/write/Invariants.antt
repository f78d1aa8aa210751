use Prim.Native.Nat.{suc, ◌+◌}
use Rattle.model.specs.Words.{word}
use Rattle.inplace.specs.Written.{Written}
use Rattle.inplace.proofs.write.Given as goal

abbrev pub invariant-loop-i : goal.invariant-loop-i
invariant-loop-i l = Written l.initial.t l.a (λ j. word l.r (suc (l.b + j))) l.i l.t l.changed
