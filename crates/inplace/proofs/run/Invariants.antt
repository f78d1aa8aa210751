use Prim.Native.Nat.{ℕ, suc, ◌+◌, ◌<◌}
use Rattle.model.specs.Words.{word}
use Rattle.inplace.proofs.run.Given as goal

abbrev pub invariant-loop-m : goal.invariant-loop-m
invariant-loop-m l = (i : ℕ) → i < l.m → 0 < word l.t (suc (l.a + i))
