-- The search as a walk along the tree's nodes, and the three tables that such a walk needs. Assumes nothing.
-- `cur` is the current node's table. `dec` has the decision at each word that the path to the current node branched at, and the file's words behind the
-- last of these. `alt` has at each such word the values that wait there, and 0 elsewhere. F is the file's table. The words of a path go upwards.
use Rattle.std.specs.Prelude.{◌≡◌, true, cond, ℕ, zero, suc, ◌^◌, ◌≤◌, ◌<◌, length, set, take, drop}
use mathlib.Core.List.{List, [], ◌∷◌, ◌++◌, map, flat_map}
use Rattle.model.specs.Words.{bit, bits, word}
use Rattle.model.specs.Constraints.{Problem, width}
use Rattle.model.specs.Rounds.{settled}
use Rattle.model.specs.Tree.{nodes, solved, Search, found, none, spent}
use Rattle.laws.specs.Inclusion.{Single, Below}

-- what a search answers that has visited i nodes and may visit b more, of those in the list; A is the answer table
unfoldable pub visit : Problem → List ℕ → ℕ → ℕ → List (List ℕ) → Search
visit P A i b [] = record { outcome = none i; table = A }
visit P A i zero (S ∷ ns) = record { outcome = spent i; table = A }
visit P A i (suc b) (S ∷ ns) = let r = visit P A (suc i) b ns in cond (solved P S) (record { outcome = found (suc i); table = S }) r

-- `at` is the first word with several bits
pub record At (S : List ℕ) (at : ℕ) : Type 0 where
  pub two : 2 ≤ length (bits (word S at))
  pub inside : at < length S
  pub before : (j : ℕ) → j < at → Single (word S j)

-- the decisions below a word, and the file's words from it on
unfoldable pub base : List ℕ → List ℕ → ℕ → List ℕ
base F dec at = take at dec ++ drop at F

-- the tables that wait at words below n, the deepest word first
unfoldable pub waiting : List ℕ → ℕ → List ℕ → List ℕ → List (List ℕ)
waiting F zero dec alt = []
waiting F (suc at) dec alt = map (λ b. set (base F dec at) at (2 ^ b)) (bits (word alt at)) ++ waiting F at dec alt

-- the nodes that are left to visit: the tree of the current table, then the trees of those that wait
unfoldable pub left : Problem → List ℕ → ℕ → List ℕ → List ℕ → List ℕ → List (List ℕ)
left P F n cur dec alt = nodes P cur ++ flat_map (nodes P) (waiting F n dec alt)

-- value b may wait at a word: the file has it, and the node that it is a child of has nothing to branch on before that word
pub record Waits (P : Problem) (F dec : List ℕ) (at b : ℕ) : Type 0 where
  pub there : bit (word F at) b ≡ true
  pub before : (j : ℕ) → j < at → Single (word (settled P (base F dec at)) j)

-- the three tables: of the current node, of the decisions, of the values that wait
pub record Stack (P : Problem) (F cur dec alt : List ℕ) : Type 0 where
  pub current : Below cur F
  pub decided : Below dec F
  pub alt-length : length alt ≡ width P
  -- the current table is what a node above has settled to, restricted; the file's table with the same decisions settles to the same
  pub same : settled P cur ≡ settled P dec
  -- from here on nothing is decided and nothing waits; before it there is nothing to branch on
  pub depth : ℕ
  pub filed : (i : ℕ) → depth ≤ i → word dec i ≡ word F i
  pub clear : (i : ℕ) → depth ≤ i → i < width P → word alt i ≡ 0
  pub single : (j : ℕ) → j < depth → Single (word (settled P dec) j)
  pub waits : (at : ℕ) → at < width P → (b : ℕ) → bit (word alt at) b ≡ true → Waits P F dec at b

-- a move of the loop, which visits one node
pub record Moved (P : Problem) (F cur dec alt cur' dec' alt' : List ℕ) : Type 0 where
  pub stack : Stack P F cur' dec' alt'
  pub visits : (A : List ℕ) (i b : ℕ) → visit P A i (suc b) (left P F (width P) cur dec alt) ≡ visit P A (suc i) b (left P F (width P) cur' dec' alt')
