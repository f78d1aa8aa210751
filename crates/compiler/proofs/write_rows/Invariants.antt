use Rattle.std.proofs.Common.{◌≡◌, ◌<◌, ◌/◌, ◌%◌, ℕ, length, get_or}
use Rattle.model.specs.Numbering.{number_in}
use Rattle.model.specs.Compile.{same_state}
use Rattle.numbering.specs.Exploring.{listed, state_at, advance_in}
use Rattle.compiler.proofs.write_rows.Given as goal

abbrev pub invariant-loop-t : goal.invariant-loop-t
invariant-loop-t l = (j : ℕ) → j < l.t → get_or l.rows j 0 ≡ number_in same_state (listed l.sets (length l.sets)) (advance_in l.letters.places l.letters.first l.letters.follow (state_at l.sets (j / l.letters.k)) (j % l.letters.k))
