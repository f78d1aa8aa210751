use Rattle.std.proofs.Common.{◌≡◌, ◌-◌}
use Rattle.numbering.specs.Exploring.{listed, states_in}
use Rattle.numbering.proofs.StandLaws.{explored}
use Rattle.numbering.proofs.Letters.number_states.Given as goal

abbrev pub invariant-loop-i : goal.invariant-loop-i
invariant-loop-i l = explored l.self.places l.self.first l.self.follow l.self.k (32 - l.i) l.i (listed l.states.sets l.states.count) ≡ states_in l.self.k l.self.places l.self.first l.self.follow
