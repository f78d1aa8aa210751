use Rattle.std.proofs.Common.{rules}
use Rattle.laws.proofs.ShiftLaws.{low_word}
use Rattle.std.proofs.Common.{rules}
use Rattle.automata.proofs.states_in.Goals as goal

pub overflow_cast-result : goal.overflow_cast-result
overflow_cast-result c = let h = low_word 32 c.below.result (λ b y. (c.below.ensures.sound b y).0) in search rules
