use Rattle.std.proofs.Common.{◌≡◌}
use Rattle.model.specs.Numbering.{reach_all}
use Rattle.model.specs.Compile.{same_state}
use Rattle.numbering.specs.Exploring.{listed}
use Rattle.numbering.proofs.StandLaws.{tried}
use Rattle.numbering.proofs.Letters.take_state.Given as goal

abbrev pub invariant-loop-a : goal.invariant-loop-a
invariant-loop-a l = listed l.states.sets l.states.count ≡ reach_all same_state (listed l.initial.states.sets l.initial.states.count) (tried l.self.places l.here l.a)
