-- Demand 3 of what runs (document 01, "How is demand 3 put?"): the claim on the answer of Search, and on the table that a list of calls leaves; the claim on the
-- table that Settle by index leaves; and that on the bytes that Compile writes. Assumes nothing.
use Rattle.std.specs.Prelude.{◌≡◌, true, cond, Result, Ok, List, ◌∷◌, ◌++◌, ℕ, suc, ◌*◌, ◌≤◌, ◌<◌, eqb, length, take}
use Rattle.model.specs.Constraints.{Choice, width}
use Rattle.model.specs.Solutions.{Solution, table_of}
use Rattle.model.specs.Order.{First}
use Rattle.model.specs.Tree.{solved, nodes}
use Rattle.model.specs.Replies.{refused, answered}
use Rattle.model.specs.Reading.{Accepted, reading}
use Rattle.model.specs.Operations.{step, Settlement, settle}
use Rattle.model.specs.Compile.{AcceptsLanguage}
use Rattle.model.specs.Queue.{settle_by_index}
use Rattle.model.specs.Claim.{Call, step_call, settle_call, settle_by_index_call, NoStepStrikes, Holds, NoneSolved}
use Rattle.refusals.specs.declared.Refusal.{Refusal}
use Rattle.search.specs.declared.Outcome.{Outcome}
use Rattle.search.specs.declared.Outcome.TheVariants.{Found, None}
use Rattle.cobleskeg.specs.declared.Settled.{Settled}

-- ---- Search

-- Search on this file with this budget, lent R and A, answers r and leaves U in the answer table; whatever type its refusals have
pub record SearchHolds {E : Type 0} (file : List ℕ) (budget : ℕ) (R A : List ℕ) (r : Result Outcome E) (U : List ℕ) : Type 0 where
  -- "finds only the first solution in the stated order"
  pub first : (a : Accepted) → reading file ≡ answered a → (n : ℕ) → r ≡ Ok (Found n) → (α : Choice) × First a.problem a.table α × (U ≡ table_of a.problem α)
  -- "says none only when there is none"
  pub empty : (a : Accepted) → reading file ≡ answered a → (n : ℕ) → r ≡ Ok (None n) → (α : Choice) → Solution a.problem a.table α → ⊥
  -- "says found whenever its tree's first solved node lies within the budget"
  pub near : (a : Accepted) → reading file ≡ answered a → 3 * width a.problem ≤ length R → length A ≡ width a.problem
      → (before after : List (List ℕ)) (S : List ℕ) → nodes a.problem a.table ≡ before ++ S ∷ after → NoneSolved a.problem before
      → solved a.problem S ≡ true → length before < budget → (r ≡ Ok (Found (suc (length before)))) × (U ≡ S)
  -- "with a budget for the whole tree it says found when there is a solution, and otherwise none": none with the tree's count
  pub whole : (a : Accepted) → reading file ≡ answered a → 3 * width a.problem ≤ length R → length A ≡ width a.problem
      → length (nodes a.problem a.table) ≤ budget → (α : Choice) → Solution a.problem a.table α → (n : ℕ) × (r ≡ Ok (Found n))
  pub nothing : (a : Accepted) → reading file ≡ answered a → 3 * width a.problem ≤ length R → length A ≡ width a.problem
      → length (nodes a.problem a.table) ≤ budget → ((α : Choice) → Solution a.problem a.table α → ⊥)
      → r ≡ Ok (None (length (nodes a.problem a.table)))

-- ---- a list of calls

-- the call that a number of a list stands for
unfoldable pub call_of : ℕ → Call
call_of n = cond (eqb n 4294967295) settle_call (step_call n)

-- the calls of a list make U of T
pub record ListHolds (file T U : List ℕ) : Type 0 where
  -- "Where the file or the table is itself refused, so is every call, and the claim is that the table after the list is the starting one"
  pub every_call : (n : ℕ) → settle (reading file) T ≡ refused n → (j : ℕ) → step (reading file) j T ≡ refused n
  pub refusing : (n : ℕ) → settle (reading file) T ≡ refused n → U ≡ T
  -- "no bit that a solution within the starting table uses is ever lost"
  pub kept : (a : Accepted) → reading file ≡ answered a → (m : Settlement) → settle (reading file) T ≡ answered m
      → (α : Choice) → Solution a.problem T α → Holds a.problem U α
  -- "a table on which no step strikes is the very table one Settle leaves"
  pub settles : (a : Accepted) → reading file ≡ answered a → (m : Settlement) → settle (reading file) T ≡ answered m → NoStepStrikes a U → U ≡ m.table

-- the call that a number of a list stands for which is lent the index I
unfoldable pub call_by_index : List ℕ → ℕ → Call
call_by_index I n = cond (eqb n 4294967294) (settle_by_index_call I) (call_of n)

-- where the file or the table T is refused, so is every call of Settle by index, whatever its index
abbrev pub IndexesRefused : List ℕ → List ℕ → Type 0
IndexesRefused file T = (n : ℕ) → settle (reading file) T ≡ refused n → (I : List ℕ) → settle_by_index (reading file) I T ≡ refused n

-- ---- Settle by index

-- Settle by index on this file and the table T answers r and leaves U: "It must end in the table that the rounds end in", and its answer on the values is
-- that of Settle
abbrev pub SettlesAlike : List ℕ → List ℕ → Result Settled Refusal → List ℕ → Type 0
SettlesAlike file T r U = (q : Settled) → r ≡ Ok q
    → (m : Settlement) × (settle (reading file) T ≡ answered m) × (U ≡ m.table) × (q.every_value ≡ m.every_value)

-- ---- Compile

-- Compile with this text and k answers r and leaves C in the buffer: of what it wrote, "The automaton accepts just the pattern's language"
abbrev pub CompileHolds : List ℕ → ℕ → Result ℕ Refusal → List ℕ → Type 0
CompileHolds s k r C = (n : ℕ) → r ≡ Ok n → AcceptsLanguage k s (take n C)
