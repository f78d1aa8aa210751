use Rattle.format.specs.Problems.{the_problem}
use Rattle.index.specs.Index.{Named}
use Rattle.index.proofs.of_file.Given as goal

abbrev pub invariant-loop-j : goal.invariant-loop-j
invariant-loop-j l = Named (the_problem l.p) l.j l.ix
