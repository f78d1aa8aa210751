use Rattle.regular.proofs.+backward.Given as goal

abbrev pub decreases-backward : goal.decreases-backward
decreases-backward l = l.r
