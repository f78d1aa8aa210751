-- What is used of a row, place by place: the lengths, states and symbols that lie on a way from the start to an accepted end; and what going backwards writes.
-- Assumes nothing.
use Rattle.std.specs.Prelude.{◌≡◌, ◌≢◌, Bool, true, List, ℕ, suc, ◌+◌, ◌*◌, ◌<◌, ◌≤◌, length}
use Rattle.model.specs.Words.{bit, word}
use Rattle.model.specs.Domains.{row}
use Rattle.model.specs.Constraints.{Automaton}
use Rattle.words.specs.Ends.{Highest}
use Rattle.automata.specs.Machine.{machine}
use Rattle.inplace.specs.InTable.{Tidy, Changed}
use Rattle.regular.specs.Paths.{Reach, Ends, Onward}
use Rattle.regular.specs.PlaceSets.{Alphabet, Forward}

-- the lengths that are allowed and whose places lead to an accepting state
pub record Accepted (A : Automaton) (x : List ℕ) (ends : ℕ) : Type 0 where
  pub sound : (l : ℕ) → bit ends l ≡ true → (bit (word x 0) l ≡ true) × ((p : ℕ) × Reach A x l p × (bit A.accepting p ≡ true))
  pub complete : (l p : ℕ) → bit (word x 0) l ≡ true → Reach A x l p → bit A.accepting p ≡ true → bit ends l ≡ true

-- the states that the first i places lead to, and from which the places after them lead to an accepted end
pub record Between (A : Automaton) (x : List ℕ) (i states : ℕ) : Type 0 where
  pub sound : (p : ℕ) → bit states p ≡ true → Reach A x i p × Ends A x i p
  pub complete : (p : ℕ) → Reach A x i p → Ends A x i p → bit states p ≡ true

-- the symbols at the place after the first i by which such a way goes on
pub record Through (A : Automaton) (x : List ℕ) (i symbols : ℕ) : Type 0 where
  pub sound : (a : ℕ) → bit symbols a ≡ true → (bit (word x (suc i)) a ≡ true) × ((p : ℕ) × Reach A x i p × Onward A x (suc i) p a)
  pub complete : (a p : ℕ) → bit (word x (suc i)) a ≡ true → Reach A x i p → Onward A x (suc i) p a → bit symbols a ≡ true

-- the row of x before a symbol is struck, the states that its places lead to, and the accepted lengths, of which top is the longest
pub record Going (k : ℕ) (bs T : List ℕ) (x : ℕ) (sets : List ℕ) (ends top : ℕ) : Type 0 where
  pub fits : 64 * x + 64 ≤ length T
  pub alphabet : Alphabet k (row T x)
  pub tidy : Tidy (row T x)
  pub before : Forward (machine k bs) (row T x) (suc top) sets
  pub accepted : Accepted (machine k bs) (row T x) ends
  pub longest : Highest ends top

-- U is T with the symbols that are used at the places of x from i on, up to top; the states that are used past i places; and whether a place differs
pub record Backward (A : Automaton) (T : List ℕ) (x i top : ℕ) (U : List ℕ) (used : ℕ) (changed : Bool) : Type 0 where
  pub size : length U ≡ length T
  pub states : Between A (row T x) i used
  pub places : (j : ℕ) → i ≤ j → j < top → Through A (row T x) j (word U (suc (64 * x + j)))
  pub others : (n : ℕ) → ((j : ℕ) → i ≤ j → j < top → n ≢ suc (64 * x + j)) → word U n ≡ word T n
  pub flag : Changed (λ j. word U (suc (64 * x + j))) (λ j. word T (suc (64 * x + j))) top changed
