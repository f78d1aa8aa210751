use Prim.Native.Nat.{◌+◌, ◌*◌}
use mathlib.Core.Path.{◌≡◌}
use mathlib.Core.List.{map}
use lib.ListN.{take}
use Rattle.model.specs.Words.{word, union}
use Rattle.index.proofs.joined_words.Given as goal

abbrev pub invariant-loop-i : goal.invariant-loop-i
invariant-loop-i l = l.w ≡ union (map (λ i. word l.index (2 * i + l.h)) (take l.i-index l.i-items))
