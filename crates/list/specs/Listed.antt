-- When a list of records is that of a file's constraints. Assumes nothing.
use Rattle.std.specs.Prelude.{◌≡◌, List, ℕ, ◌≤◌, ◌<◌, length, get_or}
use Rattle.model.specs.Constraints.{always}
use Rattle.records.specs.declared.Record.{Record}
use Rattle.records.specs.declared.Record.TheVariants.{Eq}
use Rattle.records.specs.Records.{constraint_of}
use Rattle.format.specs.declared.problem.Problem.{Problem}
use Rattle.format.specs.Problems.{the_problem}

-- what stands where the list has no element
abbrev pub blank : Record
blank = Eq 0 0

-- the list has the file's constraints, in their order, and perhaps more behind them
pub record Listed (p : Problem) (rs : List Record) : Type 0 where
  pub long : p.parts.c ≤ length rs
  pub at : (j : ℕ) → j < p.parts.c → constraint_of (get_or rs j blank) ≡ get_or (the_problem p).constraints j (always 0)
