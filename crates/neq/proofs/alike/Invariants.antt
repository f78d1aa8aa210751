use mathlib.Core.Path.{◌≡◌}
use Prim.Native.Nat.{ℕ, suc, ◌+◌, ◌≤◌, ◌<◌}
use Rattle.model.specs.Words.{word}
use Rattle.neq.proofs.alike.Given as goal

abbrev pub invariant-loop-i : goal.invariant-loop-i
invariant-loop-i l = (j : ℕ) → j < l.i → l.start ≤ j → word l.t (suc (l.a + j)) ≡ word l.t (suc (l.b + j))
