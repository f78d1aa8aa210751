-- Ways of an automaton along a row: which states the places so far lead to, and from which states the places that follow lead to an accepted end. Assumes
-- nothing.
use Rattle.std.specs.Prelude.{◌≡◌, true, List, ℕ, suc, ◌+◌, ◌<◌, length, get_or}
use Rattle.std.proofs.Math.Option.{some}
use Rattle.model.specs.Words.{bit, word}
use Rattle.model.specs.Constraints.{Automaton, move, reached, holds}

-- the places after the first i allow these symbols
abbrev pub Allowed : List ℕ → ℕ → List ℕ → Type 0
Allowed x i v = (j : ℕ) → j < length v → bit (word x (suc (i + j))) (get_or v j 0) ≡ true

-- symbols of the first i places lead from the start to state p
pub record Reach (A : Automaton) (x : List ℕ) (i p : ℕ) : Type 0 where
  pub symbols : List ℕ
  pub long : length symbols ≡ i
  pub allowed : Allowed x 0 symbols
  pub leads : reached A 0 symbols ≡ some p

-- symbols of the places after the first i lead from state p to an accepted end, with a length that is allowed
pub record Ends (A : Automaton) (x : List ℕ) (i p : ℕ) : Type 0 where
  pub symbols : List ℕ
  pub long : bit (word x 0) (i + length symbols) ≡ true
  pub allowed : Allowed x i symbols
  pub accepted : holds A.accepting (reached A p symbols) ≡ true

-- by symbol a state p moves to a state from which the places after the first i lead to an accepted end
pub record Onward (A : Automaton) (x : List ℕ) (i p a : ℕ) : Type 0 where
  pub state : ℕ
  pub leads : move A p a ≡ some state
  pub ends : Ends A x i state
