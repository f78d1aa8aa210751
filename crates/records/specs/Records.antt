-- What the code's records mean in the model's words, and which of the refusals 7 and 8 a list of records has. Assumes nothing.
use Rattle.std.specs.Prelude as std
use Rattle.std.specs.Prelude.{Bool, true, false, cond, List, ℕ, Some, None}
use Rattle.std.proofs.Math.Option.{Option, none, some}
use Rattle.model.specs.Lists.{any, collect}
use Rattle.model.specs.Constraints.{Constraint, eq, neq, rev, cat, sub, len, regular, variables}
use Rattle.model.specs.Reading.{decode, repeats}
use Rattle.records.specs.declared.Record.{Record}
use Rattle.records.specs.declared.Record.TheVariants.{Eq, Neq, Rev, Cat, Sub, Len, Regular}

-- the constraint that a record of the code is
unfoldable pub constraint_of : Record → Constraint
constraint_of (Eq x y) = eq x y
constraint_of (Neq x y) = neq x y
constraint_of (Rev x y) = rev x y
constraint_of (Cat x y z) = cat x y z
constraint_of (Sub x y n) = sub x y n
constraint_of (Len x n) = len x n
constraint_of (Regular x d) = regular x d

-- the constraint that decoding took out, if there is one
unfoldable pub decoded_of : std.Option Record → Option Constraint
decoded_of (Some r) = some (constraint_of r)
decoded_of None = none

-- "7: a kind outside 1 to 7, an argument naming nothing, or an unused one not 0": 7 where some record is no constraint, else 0
unfoldable pub standing : Option (List Constraint) → ℕ
standing none = 7
standing (some cs) = 0

-- "naming one string twice": whether there is a constraint that does
unfoldable pub repeating : Option Constraint → Bool
repeating none = false
repeating (some c) = repeats (variables c)

-- "8: a constraint naming one string twice", else 0
unfoldable pub repeated_in : List Constraint → ℕ
repeated_in cs = cond (any (λ c. repeats (variables c)) cs) 8 0

-- "7: a kind outside 1 to 7, an argument naming nothing, or an unused one not 0": 7 where some record is no constraint
unfoldable pub refusal_in : Option (List Constraint) → ℕ
refusal_in none = 7
refusal_in (some cs) = repeated_in cs

-- the refusal that these records have, 0 for none, in a file of s strings, t numbers and d automata
unfoldable pub refusal_of : ℕ → ℕ → ℕ → List (List ℕ) → ℕ
refusal_of s t d records = refusal_in (collect (decode s t d) records)
