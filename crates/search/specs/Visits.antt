-- Where a search stands, what one visit makes of the room, and what it says of the search. Assumes nothing.
use Rattle.std.specs.Prelude.{Some, None, ◌≡◌, List, ℕ, suc, ◌+◌, ◌*◌, ◌≤◌, drop}
use Rattle.std.specs.Option.{unwrap_or}
use Rattle.model.specs.Constraints.{width}
use Rattle.model.specs.Tree.{found, none}
use Rattle.laws.specs.Traversal.{visit, left}
use Rattle.shortcuts.specs.Kept.{Keeping}
use Rattle.format.specs.declared.problem.Problem.{Problem}
use Rattle.format.specs.Problems.{the_problem, the_table}
use Rattle.waiting.specs.Beginnings.{ChildAt}
use Rattle.room.specs.Tables.{table_at, First, AllSingle, Last, NoneWait, Down, Sibling, Restart}
use Rattle.search.specs.declared.Path.{Path}
use Rattle.search.specs.declared.Visited.{Visited}
use Rattle.search.specs.declared.Visited.TheVariants.{Solved, Over, On}

-- what a node with a value for every variable leads to: no word has several values, or the room is moved down at the first that has
pub data GoesDown (m depth : ℕ) (R U : List ℕ) : Visited → Type 0 where
  nothing_open : U ≡ R → AllSingle (table_at m 0 R) depth → GoesDown m depth R U Solved
  downwards : (at : ℕ) → First (table_at m 0 R) depth at → Down m at R U → GoesDown m depth R U (On (record { from = Some at; depth = at + 1; kept = Some at }))

-- what a dead node leads to: nothing waits, or the room is moved to the last word at which a value waits
pub data GoesBack (F : List ℕ) (m : ℕ) (path : Path) (R U : List ℕ) : Visited → Type 0 where
  nothing-waits : U ≡ R → NoneWait (table_at m 2 R) path.depth → GoesBack F m path R U Over
  to-sibling : (at : ℕ) → Last (table_at m 2 R) path.depth at → path.kept ≡ Some at → Sibling m at R U
      → GoesBack F m path R U (On (record { from = Some at; depth = at + 1; kept = Some at }))
  to-restart : (at : ℕ) → Last (table_at m 2 R) path.depth at → Restart F m at R U
      → GoesBack F m path R U (On (record { from = None; depth = at + 1; kept = path.kept }))

-- the words of a table of the problem
abbrev pub words_in : Problem → ℕ
words_in p = width (the_problem p)

-- where a search begins: nothing is known of its table, and nothing is kept
abbrev pub root : Path
root = record { from = None; depth = 0; kept = None }

-- the room's tables are those of a search of the file's table, with these decisions
pub record Standing (p : Problem) (path : Path) (R dec : List ℕ) : Type 0 where
  pub keeping : Keeping (the_problem p) (the_table p) (table_at (words_in p) 0 R) dec (table_at (words_in p) 1 R) (table_at (words_in p) 2 R) (unwrap_or path.kept (words_in p)) path.depth
  pub begun : ChildAt (the_problem p) (table_at (words_in p) 0 R) path.from
  pub inside : path.depth ≤ words_in p

-- the same, whatever the decisions are: no table has them
abbrev pub StandsIn : Problem → Path → List ℕ → Type 0
StandsIn p path R = (dec : List ℕ) × Standing p path R dec

-- the nodes that are left to visit
abbrev pub left_in : Problem → List ℕ → List ℕ → List (List ℕ)
left_in p R dec = left (the_problem p) (the_table p) (width (the_problem p)) (table_at (words_in p) 0 R) dec (table_at (words_in p) 2 R)

-- from the room R, with the decisions `dec`, one node was visited, and the search stands on in the room U
pub record Moves (p : Problem) (R dec : List ℕ) (next : Path) (U : List ℕ) : Type 0 where
  pub decisions : List ℕ
  pub standing : Standing p next U decisions
  pub visits : (A : List ℕ) (i b : ℕ) → visit (the_problem p) A i (suc b) (left_in p R dec) ≡ visit (the_problem p) A (suc i) b (left_in p U decisions)

-- a visit that makes U of the room R: the search ends here, or goes on as if one node less were left
pub record Visits (p : Problem) (path : Path) (R U : List ℕ) (r : Visited) : Type 0 where
  pub beyond : drop (3 * words_in p) U ≡ drop (3 * words_in p) R
  pub solved : r ≡ Solved → (dec : List ℕ) → Standing p path R dec → (A : List ℕ) (i b : ℕ)
      → visit (the_problem p) A i (suc b) (left_in p R dec) ≡ record { outcome = found (suc i); table = table_at (words_in p) 0 U }
  pub over : r ≡ Over → (dec : List ℕ) → Standing p path R dec → (A : List ℕ) (i b : ℕ)
      → visit (the_problem p) A i (suc b) (left_in p R dec) ≡ record { outcome = none (suc i); table = A }
  pub on : (next : Path) → r ≡ On next → (dec : List ℕ) → Standing p path R dec → Moves p R dec next U
