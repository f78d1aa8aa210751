-- Where the variables that a record names stand, as an array lists them, and whether a lent index has their words. Assumes nothing.
use Rattle.std.specs.Prelude.{◌≡◌, List, ℕ, ◌+◌, ◌*◌, ◌≤◌, take}
use Rattle.laws.specs.Inclusion.{In}
use Rattle.records.specs.declared.Record.{Record}
use Rattle.index.specs.declared.positions.Positions.{Positions}
use Rattle.index.specs.Joining.{positions}

-- the positions that m lists
abbrev pub listed : Positions → List ℕ
listed m = take m.count m.at

-- m lists where the variables that r names stand, in a problem of s strings
pub record Standing (s : ℕ) (r : Record) (m : Positions) : Type 0 where
  pub are : listed m ≡ positions s r

-- a lent index of n words has both words of each variable that m lists
pub record Lent (m : Positions) (n : ℕ) : Type 0 where
  pub inside : (i : ℕ) → In i (listed m) → 2 * i + 2 ≤ n
