use Rattle.search.proofs.ExploreLaws.{Exploring}
use lib.ListN.{length}
use mathlib.Core.Path.{◌≡◌}
use Rattle.search.proofs.explore.Given as goal

abbrev pub invariant-loop-count : goal.invariant-loop-count
invariant-loop-count l =
    (length l.room ≡ length l.initial.room) × (l.answer ≡ l.initial.answer) × Exploring l.p.problem l.budget l.initial.room l.initial.answer l.count l.path l.room
