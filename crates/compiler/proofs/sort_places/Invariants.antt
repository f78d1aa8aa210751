use Rattle.compiler.specs.Answers.{Sorted}
use Rattle.compiler.proofs.sort_places.Given as goal

abbrev pub invariant-loop-p : goal.invariant-loop-p
invariant-loop-p l = Sorted l.s l.p l.places
