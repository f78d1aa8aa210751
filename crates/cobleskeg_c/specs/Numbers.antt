-- The numbers that stand for answers in the C interface. Assumes nothing.
use Rattle.std.specs.Prelude.{◌≡◌, Bool, cond, List, ℕ, eqb, Result, Ok, Err}
use Rattle.model.specs.Tree.{Outcome, found, none, spent}
use Rattle.model.specs.Replies.{Reply, refused, answered}
use Rattle.model.specs.Reading.{reading}
use Rattle.model.specs.Operations.{Settlement, settle}
use Rattle.search.specs.declared.Outcome as ended
use Rattle.search.specs.declared.Outcome.TheVariants.{Found, None, Spent}

-- the paper's number of the refusal, and 0 for none
unfoldable pub refusal : {A : Type 0} → Reply A → ℕ
refusal (refused n) = n
refusal (answered a) = 0

-- a number behind a reference after the call: "A refusal writes nothing"
unfoldable pub writes : {A : Type 0} → (A → ℕ) → Reply A → ℕ → ℕ
writes f (refused n) old = old
writes f (answered a) old = f a

unfoldable pub bit_of : Bool → ℕ
bit_of b = cond b 1 0

-- Settle by index on this file and the table T returns r and leaves U, and v behind its reference: where it is accepted both are what Settle leaves
abbrev pub SettledAlike : List ℕ → List ℕ → ℕ → List ℕ → ℕ → Type 0
SettledAlike file T r U v = r ≡ 0 → (m : Settlement) × (settle (reading file) T ≡ answered m) × (U ≡ m.table) × (v ≡ bit_of m.every_value)

unfoldable pub outcome_number : Outcome → ℕ
outcome_number (found n) = 1
outcome_number (none n) = 2
outcome_number (spent n) = 3

-- the count of the nodes visited
unfoldable pub outcome_nodes : Outcome → ℕ
outcome_nodes (found n) = n
outcome_nodes (none n) = n
outcome_nodes (spent n) = n

-- the answer that the number returned and the two results of a search stand for
unfoldable pub search_answer : ℕ → ℕ → ℕ → Result ended.Outcome ℕ
search_answer r outcome nodes = cond (eqb r 0) (Ok (cond (eqb outcome 1) (Found nodes) (cond (eqb outcome 2) (None nodes) (Spent nodes)))) (Err r)
