-- The search over three tables of which the second is kept from the node that was branched at last. Assumes nothing.
use Rattle.std.specs.Prelude.{◌≡◌, true, List, ℕ, ◌≤◌, ◌<◌, length}
use Rattle.model.specs.Words.{bit, word}
use Rattle.model.specs.Constraints.{Problem, width}
use Rattle.model.specs.Rounds.{settled}
use Rattle.laws.specs.Inclusion.{Single}
use Rattle.laws.specs.Traversal.{base, Stack}

-- the current table; the decisions, which are in no table; the table kept from the node that was branched at last, at word k₀; and what waits
pub record Keeping (P : Problem) (F cur dec kept alt : List ℕ) (k₀ depth : ℕ) : Type 0 where
  pub stack : Stack P F cur dec alt
  pub kept-length : length kept ≡ width P
  -- before a word at which something waits the kept table has the words of the node that branched there
  pub before : (k : ℕ) → k < width P → (b : ℕ) → bit (word alt k) b ≡ true → (j : ℕ) → j < k → word kept j ≡ word (settled P (base F dec k)) j
  -- and where something waits at its own word it is that node's table
  pub own : k₀ < width P → (b : ℕ) → bit (word alt k₀) b ≡ true → kept ≡ settled P (base F dec k₀)
  -- which has the values that wait there
  pub there : k₀ < width P → (b : ℕ) → bit (word alt k₀) b ≡ true → bit (word kept k₀) b ≡ true
  -- from the depth on nothing waits, and before it there is nothing to branch on
  pub clear : (i : ℕ) → depth ≤ i → i < width P → word alt i ≡ 0
  pub decided : (j : ℕ) → j < depth → Single (word (settled P cur) j)
