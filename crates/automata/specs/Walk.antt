-- The automata of a file, one after the other: whether they are read at all, and where each starts. Assumes nothing.
use Rattle.std.specs.Prelude.{◌≡◌, ℕ, ◌<◌, ◌≤◌, Bool, true, false, List, length, drop, slice_index_or}
use Rattle.std.proofs.Math.Option.{Option, none, some}
use Rattle.model.specs.Constraints.{Automaton, no_automaton}
use Rattle.model.specs.Reading.{automata_in}
use Rattle.automata.specs.Machine.{machine, Whole}

-- there is a value
unfoldable pub present : {A : Type 0} → Option A → Bool
present none = false
present (some a) = true

-- "exactly d automata", of which i is one: what refusals 5 and 7 leave
pub record Held (k : ℕ) (bs : List ℕ) (i : ℕ) : Type 0 where
  pub count : ℕ
  pub automata : List Automaton
  pub read : automata_in k count bs ≡ some automata
  pub named : i < length automata

-- automaton i of the bytes starts at byte r
pub record Starts (k : ℕ) (bs : List ℕ) (i r : ℕ) : Type 0 where
  pub inside : r ≤ length bs
  pub whole : Whole k (drop r bs)
  pub found : (d : ℕ) (As : List Automaton) → automata_in k d bs ≡ some As → slice_index_or As i no_automaton ≡ machine k (drop r bs)
