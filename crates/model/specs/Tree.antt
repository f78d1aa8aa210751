-- The search tree and what a budget makes of it (document 01, "The search tree"). Assumes nothing.
use Rattle.std.specs.Prelude.{Bool, cond, ℕ, zero, suc, ◌+◌, ◌*◌, ◌^◌, eqb, leb, length, set}
use mathlib.Core.List.{List, [], ◌∷◌, map, flat_map}
use Rattle.std.proofs.Math.Option.{Option, Option-elim, bind}
use Rattle.model.specs.Lists.{all, find, from, map_from}
use Rattle.model.specs.Words.{bits, several, size, word}
use Rattle.model.specs.Domains.{Variable, str, num}
use Rattle.model.specs.Constraints.{Problem}
use Rattle.model.specs.Rounds.{variables_of, value_count, every_value, settled}

-- "If all have exactly one, it is solved"
unfoldable pub solved : Problem → List ℕ → Bool
solved P S = all (λ v. eqb (value_count P S v) 1) (variables_of P)

-- the words of a variable: a string's length word, then its places in order; a number's word
unfoldable pub words_of : Problem → Variable → List ℕ
words_of P (str x) = from (64 * x) 64
words_of P (num n) = (64 * P.strings + n) ∷ []

-- "take the first such variable with more than one"
unfoldable pub branch_variable : Problem → List ℕ → Option Variable
branch_variable P S = find (λ v. leb 2 (value_count P S v)) (variables_of P)

-- "branch on its length if several remain, else on its first undecided place, or on the number's value"
unfoldable pub branch_word : Problem → List ℕ → Variable → Option ℕ
branch_word P S v = find (λ i. several (word S i)) (words_of P v)

-- the word in which a node branches
unfoldable pub branch : Problem → List ℕ → Option ℕ
branch P S = bind (branch_variable P S) (branch_word P S)

-- "the settled table with only one of the remaining values left there, and follow these values upwards"
unfoldable pub restricted : List ℕ → ℕ → List (List ℕ)
restricted S i = map (λ b. set S i (2 ^ b)) (bits (word S i))

-- "If a variable has no value it is dead"; a solved node has no variable to branch on
unfoldable pub children : Problem → List ℕ → List (List ℕ)
children P S = cond (every_value P S) (Option-elim (branch P S) [] (restricted S)) []

-- the nodes at and below T, to a depth of f
unfoldable pub nodes_in : ℕ → Problem → List ℕ → List (List ℕ)
nodes_in zero P T = []
nodes_in (suc f) P T = let S = settled P T in S ∷ flat_map (λ U. nodes_in f P U) (children P S)

-- "Every node settles its table"; "Nodes are visited depth first, the root being the first": the settled tables of the whole tree's nodes, in the order of
-- the visit. A child has fewer bits than its node. The equation a reader expects is `nodes-step` (crates/laws, TreeLaws):
-- nodes P T ≡ settled P T ∷ flat_map (nodes P) (children P (settled P T)).
unfoldable pub nodes : Problem → List ℕ → List (List ℕ)
nodes P T = nodes_in (suc (size T)) P T

-- a node with its number in the order of the visit, "the root being the first"
pub record Node : Type 0 where
  pub number : ℕ
  pub table : List ℕ

-- the nodes with their numbers
unfoldable pub numbered : List (List ℕ) → List Node
numbered ns = map_from 1 (λ n S. record { number = n; table = S }) ns

-- "the first solved node": its number is "the count up to and including" it
unfoldable pub first_solved : Problem → List (List ℕ) → Option Node
first_solved P ns = find (λ N. solved P N.table) (numbered ns)

-- found, none or spent, with the count that comes back
pub data Outcome : Type 0 where
  found none spent : ℕ → Outcome

-- the outcome, and the answer table afterwards
pub record Search : Type 0 where
  pub outcome : Outcome
  pub table : List ℕ

-- "Found, with the count up to and including the first solved node, if that node lies within the budget: the answer table holds it";
-- "Spent, with the count equal to the budget, otherwise"; "None and Spent leave the answer table alone"
unfoldable pub hit : ℕ → List ℕ → Node → Search
hit budget A N = cond (leb N.number budget) (record { outcome = found N.number; table = N.table }) (record { outcome = spent budget; table = A })

-- "None with the whole tree's count if it fits and no node is solved"; "None and Spent leave the answer table alone"
unfoldable pub miss : ℕ → List ℕ → ℕ → Search
miss budget A count = record { outcome = cond (leb count budget) (none count) (spent budget); table = A }

-- the search from the table F, with a budget of nodes and the answer table A
unfoldable pub searching : Problem → List ℕ → ℕ → List ℕ → Search
searching P F budget A =
    let ns = nodes P F in
    let unsolved = miss budget A (length ns) in
    Option-elim (first_solved P ns) unsolved (hit budget A)
