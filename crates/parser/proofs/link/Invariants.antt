use Rattle.parser.proofs.Links.{Linking}
use Rattle.parser.proofs.link.Given as goal

abbrev pub invariant-loop-p : goal.invariant-loop-p
invariant-loop-p l = Linking l.initial.follow l.last l.first l.p-iterator.rest l.follow
