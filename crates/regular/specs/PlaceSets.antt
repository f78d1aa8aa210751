-- The sets that the step of Regular goes through: of states for each place, of lengths, and of symbols. Assumes nothing.
use Rattle.std.specs.Prelude.{◌≡◌, true, false, List, ℕ, suc, ◌<◌}
use Rattle.std.proofs.Math.Option.{some}
use Rattle.model.specs.Words.{bit, word, none_from}
use Rattle.model.specs.Constraints.{Automaton, move}
use Rattle.automata.specs.StateSets.{Gathered}
use Rattle.regular.specs.Paths.{Reach}

-- "a symbol word … has a bit at k or above": none of this row has
pub record Alphabet (k : ℕ) (x : List ℕ) : Type 0 where
  pub below : (j : ℕ) → j < 63 → none_from k (word x (suc j)) ≡ true

-- for each i below n, set i has the states that the first i places lead to; it is marked, unless each of the states before moves by each symbol of place i
pub record Forward (A : Automaton) (x : List ℕ) (n : ℕ) (sets : List ℕ) : Type 0 where
  pub sound : (i p : ℕ) → i < n → p < 63 → bit (word sets i) p ≡ true → Reach A x i p
  pub complete : (i p : ℕ) → i < n → Reach A x i p → bit (word sets i) p ≡ true
  pub moves : (i p a : ℕ) → suc i < n → Reach A x i p → bit (word x (suc i)) a ≡ true → bit (word sets (suc i)) 63 ≡ false → (t : ℕ) × (move A p a ≡ some t)

-- the lengths l below n that are allowed, and whose set has an accepting state p
abbrev pub Lengths : ℕ → ℕ → ℕ → List ℕ → ℕ → Type 0
Lengths n allowed accepting sets r = Gathered n
    (λ l t. (l ≡ t) × (bit allowed l ≡ true) × ((p : ℕ) × (bit accepting p ≡ true) × (bit (word sets l) p ≡ true))) r
