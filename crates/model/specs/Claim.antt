-- Demand 3 (document 01, "How is demand 3 put?"): the claim on a whole list of Step and Settle calls, and on a search with any budget. Assumes nothing.
use Rattle.std.specs.Prelude.{◌≡◌, true, false, ℕ, suc, ◌≤◌, ◌<◌, length}
use mathlib.Core.List.{List, [], ◌∷◌, ◌++◌, Memᴰ}
use Rattle.model.specs.Words.{bit, word, Words}
use Rattle.model.specs.Constraints.{Problem, Choice, width}
use Rattle.model.specs.Solutions.{Solution, used, table_of}
use Rattle.model.specs.Order.{First}
use Rattle.model.specs.Tree.{solved, nodes, found, none}
use Rattle.model.specs.Replies.{refused, answered, leaves}
use Rattle.model.specs.Reading.{Accepted, Reading}
use Rattle.model.specs.Operations.{step_count, Stepped, step, Settlement, settle, Searched, search}
use Rattle.model.specs.Queue.{Queued, settle_by_index}

-- ---- a list of calls

-- "list of Step and Settle calls": Step with its number, or Settle; "Another entry that a later ticket gives one of these calls counts as that call": the
-- second settle, with any words for an index
pub data Call : Type 0 where
  step_call : ℕ → Call
  settle_call : Call
  settle_by_index_call : List ℕ → Call

-- the table after a call; "A refused call leaves it as it was"
unfoldable pub call : Reading → Call → List ℕ → List ℕ
call r (step_call j) T = leaves (λ (a : Stepped). a.table) (step r j T) T
call r settle_call T = leaves (λ (a : Settlement). a.table) (settle r T) T
call r (settle_by_index_call I) T = leaves (λ (a : Queued). a.table) (settle_by_index r I T) T

-- the table after a list of calls, each on the table that the one before it left; "A list may be empty"
unfoldable pub calls : Reading → List Call → List ℕ → List ℕ
calls r [] T = T
calls r (c ∷ cs) T = calls r cs (call r c T)

-- "no step strikes anything in a table when each of Step 0 to c + s - 1, called on it, leaves it as it is"
abbrev pub NoStepStrikes : Accepted → List ℕ → Type 0
NoStepStrikes a T = (j : ℕ) → j < step_count a.problem → call (answered a) (step_call j) T ≡ T

-- a table has every bit that a choice uses
abbrev pub Holds : Problem → List ℕ → Choice → Type 0
Holds P T α = (i : ℕ) → i < width P → (b : ℕ) → bit (used P.strings α i) b ≡ true → bit (word T i) b ≡ true

-- the claim on a list of calls that starts from T, of which one Settle makes m
pub record ListClaim (a : Accepted) (T : List ℕ) (m : Settlement) (cs : List Call) : Type 0 where
  -- "no bit that a solution within the starting table uses is ever lost"
  pub kept : (α : Choice) → Solution a.problem T α → Holds a.problem (calls (answered a) cs T) α
  -- "a table on which no step strikes is the very table one Settle leaves"
  pub settles : NoStepStrikes a (calls (answered a) cs T) → calls (answered a) cs T ≡ m.table

-- ---- a search

-- some nodes of the tree, none of them solved
abbrev pub NoneSolved : Problem → List (List ℕ) → Type 0
NoneSolved P ns = (S : List ℕ) → Memᴰ S ns → solved P S ≡ false

-- the claim on a search with this budget that answers z
pub record SearchClaim (a : Accepted) (budget : ℕ) (z : Searched) : Type 0 where
  -- "finds only the first solution in the stated order"
  pub first : (n : ℕ) → z.outcome ≡ found n → (α : Choice) × First a.problem a.table α × (z.table ≡ table_of a.problem α)
  -- "says none only when there is none"
  pub empty : (n : ℕ) → z.outcome ≡ none n → (α : Choice) → Solution a.problem a.table α → ⊥
  -- "says found whenever its tree's first solved node lies within the budget"
  pub near : (before after : List (List ℕ)) (S : List ℕ) → nodes a.problem a.table ≡ before ++ S ∷ after → NoneSolved a.problem before
      → solved a.problem S ≡ true → length before < budget → (z.outcome ≡ found (suc (length before))) × (z.table ≡ S)
  -- "with a budget for the whole tree it says found when there is a solution, and otherwise none": none with the tree's count
  pub whole : length (nodes a.problem a.table) ≤ budget → (α : Choice) → Solution a.problem a.table α → (n : ℕ) × (z.outcome ≡ found n)
  pub nothing : length (nodes a.problem a.table) ≤ budget → ((α : Choice) → Solution a.problem a.table α → ⊥)
      → z.outcome ≡ none (length (nodes a.problem a.table))

-- ---- demand 3, for what reading a file gives

pub record Demand (r : Reading) : Type 0 where
  -- "Where the file or the table is itself refused, so is every call": Settle refuses just these, and every Step and every second settle then refuses with its
  -- number
  pub every_call : (T : List ℕ) (n : ℕ) → settle r T ≡ refused n → (j : ℕ) → step r j T ≡ refused n
  pub every_index : (T : List ℕ) (n : ℕ) → settle r T ≡ refused n → (I : List ℕ) → settle_by_index r I T ≡ refused n
  -- "the table after the list is the starting one"
  pub refusing : (T : List ℕ) (n : ℕ) → settle r T ≡ refused n → (cs : List Call) → calls r cs T ≡ T
  pub calling : (a : Accepted) → r ≡ answered a → (T : List ℕ) → Words T → (m : Settlement) → settle r T ≡ answered m → (cs : List Call) → ListClaim a T m cs
  pub searching : (a : Accepted) → r ≡ answered a → (budget : ℕ) (room A : List ℕ) (z : Searched) → search r budget room A ≡ answered z → SearchClaim a budget z
