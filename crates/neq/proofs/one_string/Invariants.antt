use Prim.Native.Nat.{ℕ, suc, ◌+◌, ◌<◌}
use Rattle.model.specs.Words.{word}
use Rattle.laws.specs.Inclusion.{Single}
use Rattle.neq.proofs.one_string.Given as goal

abbrev pub invariant-loop-i : goal.invariant-loop-i
invariant-loop-i l = (j : ℕ) → j < l.i → Single (word l.t (suc (l.a + j)))
