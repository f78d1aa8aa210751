-- The states over what is known of a text: the letters of each symbol, the first letters, and the letters that follow each place. Assumes nothing.
use Rattle.std.specs.Prelude.{cond, List, [], ◌∷◌, map, ℕ, zero, suc, ltb, length, get_or}
use Rattle.std.specs.Int.Bits.{bit_and, bit_or}
use Rattle.model.specs.Lists.{upto}
use Rattle.model.specs.Words.{bits, union}
use Rattle.model.specs.PatternStates.{State, start, passed}
use Rattle.model.specs.Numbering.{reach_all, explore}
use Rattle.model.specs.Compile.{same_state}

-- the union of the sets f 0 to f (n - 1)
unfoldable pub joined : (ℕ → ℕ) → ℕ → ℕ
joined f zero = 0
joined f (suc n) = bit_or (joined f n) (f n)

-- state 0 is the start; the set of any other one is the word with its number
unfoldable pub state_at : List ℕ → ℕ → State
state_at sets zero = start
state_at sets (suc i) = passed (get_or sets (suc i) 0)

-- the first n states that the words stand for
unfoldable pub listed : List ℕ → ℕ → List State
listed sets n = map (state_at sets) (upto n)

-- the letters that may come next
unfoldable pub ahead_in : ℕ → List ℕ → State → ℕ
ahead_in firsts F start = firsts
ahead_in firsts F (passed w) = union (map (λ p. get_or F p 0) (bits w))

-- the state after one more symbol
unfoldable pub advance_in : List ℕ → ℕ → List ℕ → State → ℕ → State
advance_in places firsts F x a = passed (bit_and (ahead_in firsts F x) (get_or places a 0))

module _ (k : ℕ) (places : List ℕ) (firsts : ℕ) (F : List ℕ) where
  unfoldable pub successors_in : State → List State
  successors_in x = map (advance_in places firsts F x) (upto k)

  -- state i is taken, if there is one
  unfoldable pub visited : List State → ℕ → List State
  visited Q i = cond (ltb i (length Q)) (reach_all same_state Q (successors_in (get_or Q i start))) Q

  unfoldable pub states_in : List State
  states_in = explore same_state successors_in start 32 0 (start ∷ [])
