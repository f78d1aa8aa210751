use lib.Bits.{bit_and}
use Rattle.inplace.specs.Written.{Written}
use Rattle.duration.specs.Stretches.{places_after, symbols_at}
use Rattle.duration.proofs.Spelling.keep.Given as goal

abbrev pub invariant-loop-i : goal.invariant-loop-i
invariant-loop-i l = Written l.initial.t l.a (λ j. bit_and (places_after l.initial.t l.a j) (symbols_at l.whole l.low l.self.points j)) l.i l.t l.changed
