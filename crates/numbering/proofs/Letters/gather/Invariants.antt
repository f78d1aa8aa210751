use lib.ListN.{get_or}
use Rattle.numbering.proofs.GatherLaws.{Gathering}
use Rattle.numbering.proofs.Letters.gather.Given as goal

abbrev pub invariant-loop-p : goal.invariant-loop-p
invariant-loop-p l = Gathering (λ p. get_or l.self.follow p 0) l.w l.p-iterator.rest l.r
