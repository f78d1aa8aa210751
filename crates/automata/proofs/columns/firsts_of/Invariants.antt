use Rattle.std.specs.Prelude.{Some}
use Rattle.automata.proofs.KindLaws.{Covering}
use Rattle.automata.proofs.columns.firsts_of.Given as goal

abbrev pub invariant-loop-rest : goal.invariant-loop-rest
invariant-loop-rest l = Covering (Some l.ks) l.w l.rest l.r

abbrev pub decreases-loop-rest : goal.decreases-loop-rest
decreases-loop-rest l = l.rest
