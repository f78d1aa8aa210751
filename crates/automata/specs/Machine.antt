-- The automaton that some bytes hold, and what refusal 5 leaves of them (document 01, "Problem file"). Assumes nothing.
use Rattle.std.specs.Prelude.{◌≡◌, ℕ, ◌+◌, ◌*◌, ◌<◌, ◌≤◌, true, List, map, length, drop, slice_index, Some, None}
use Rattle.std.specs.Prelude
use Rattle.std.proofs.Math.Option.{Option, none, some}
use Rattle.model.specs.Words.{none_from}
use Rattle.model.specs.Constraints.{Automaton}
use Rattle.model.specs.Layout.{little, part}
use Rattle.model.specs.Reading.{pieces, target, known}

-- "a state count q"
abbrev pub state_count : List ℕ → ℕ
state_count bs = slice_index bs 0

-- "32 bits of accepting states … then q rows of k bytes": the automaton at the head of these bytes, as the model's `automaton` makes it
unfoldable pub machine : ℕ → List ℕ → Automaton
machine k bs = record { accepting = little (part 1 4 bs); moves = map (map target) (pieces (state_count bs) k (drop 5 bs)) }

-- "The move from a state by a symbol now gives a state or nothing": as the code answers it
unfoldable pub move_of : Prelude.Option ℕ → Option ℕ
move_of (Some p) = some p
move_of None = none

-- the bit that stands for a move in a set: that of its state, and 63, which no state has, for nothing
unfoldable pub mark_of : Option ℕ → ℕ
mark_of none = 63
mark_of (some p) = p

-- "a state count q (1 to 32, one byte), 32 bits of accepting states (bits at q and above are 0), then q rows of k bytes: the next state for each symbol", each of
-- which is below q or 255
pub record Whole (k : ℕ) (bs : List ℕ) : Type 0 where
  pub some-state : 1 ≤ state_count bs
  pub most-states : state_count bs ≤ 32
  pub long : 5 + state_count bs * k ≤ length bs
  pub accepting-known : none_from (state_count bs) (little (part 1 4 bs)) ≡ true
  pub moves-known : (j : ℕ) → j < state_count bs * k → known (state_count bs) (slice_index bs (5 + j)) ≡ true
