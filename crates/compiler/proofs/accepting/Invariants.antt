use Rattle.std.proofs.Common.{◌≡◌, ◌^◌, ℕ}
use Rattle.model.specs.PatternStates.{when}
use Rattle.numbering.specs.Exploring.{joined, state_at}
use Rattle.compiler.specs.Answers.{final_in}
use Rattle.compiler.proofs.accepting.Given as goal

abbrev pub invariant-loop-i : goal.invariant-loop-i
invariant-loop-i l = l.r ≡ joined (λ (j : ℕ). when (final_in l.part.nullable l.part.last (state_at l.sets j)) (2 ^ j)) l.i
