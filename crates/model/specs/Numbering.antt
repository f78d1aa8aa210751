-- States numbered in the order in which they are first reached (document 02, ticket 1), whatever the states are. Assumes nothing.
use Rattle.std.specs.Prelude.{Bool, cond, List, [], ◌∷◌, ◌++◌, ℕ, zero, suc, ltb, length, get_or}
use Rattle.model.specs.Lists.{any}

module _ {A : Type 0} (same : A → A → Bool) where
  -- the number of a state: the index where the list has it first
  unfoldable pub number_in : List A → A → ℕ
  number_in [] x = 0
  number_in (y ∷ Q) x = let later = suc (number_in Q x) in cond (same x y) 0 later

  -- "a new one gets the next number"
  unfoldable pub reach : List A → A → List A
  reach Q x = cond (any (same x) Q) Q (Q ++ (x ∷ []))

  unfoldable pub reach_all : List A → List A → List A
  reach_all Q [] = Q
  reach_all Q (x ∷ xs) = reach_all (reach Q x) xs

  module _ (successors : A → List A) (start : A) where
    -- "States are taken in the order of their numbers, each with its symbols tried upwards": n states at most, from number i on; `successors` are the states
    -- that the symbols of a state lead to, upwards
    unfoldable pub explore : ℕ → ℕ → List A → List A
    explore zero i Q = Q
    explore (suc n) i Q = let rest = explore n (suc i) (reach_all Q (successors (get_or Q i start))) in cond (ltb i (length Q)) rest Q
