-- Where the variables that a record names stand in the index, and an index with more bits at some positions. Assumes nothing.
use Rattle.std.specs.Prelude.{◌≡◌, ◌⊎◌, true, List, map, ℕ, ◌<◌}
use Rattle.model.specs.Words.{bit, word}
use Rattle.model.specs.Domains.{Variable}
use Rattle.model.specs.Constraints.{variables}
use Rattle.laws.specs.Inclusion.{In, Within}
use Rattle.records.specs.declared.Record.{Record}
use Rattle.records.specs.Records.{constraint_of}
use Rattle.index.specs.Index.{position}

-- the variables that a record names
abbrev pub named : Record → List Variable
named r = variables (constraint_of r)

-- where they stand in the index of a problem of s strings
abbrev pub positions : ℕ → Record → List ℕ
positions s r = map (position s) (named r)

-- these positions are in the index
pub record Fits (s : ℕ) (r : Record) : Type 0 where
  pub inside : (v : Variable) → In v (variables (constraint_of r)) → position s v < 32

-- every word keeps its bits, the words at these positions have b's bits too, and there are no others
pub record Joined (is : List ℕ) (b : ℕ) (ix jx : List ℕ) : Type 0 where
  pub kept : (i : ℕ) → Within (word ix i) (word jx i)
  pub joined : (i : ℕ) → In i is → Within b (word jx i)
  pub only : (i k : ℕ) → bit (word jx i) k ≡ true → (bit (word ix i) k ≡ true) ⊎ (In i is × (bit b k ≡ true))
