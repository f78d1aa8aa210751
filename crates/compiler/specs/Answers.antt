-- What the compiler answers and leaves in the buffer. Assumes nothing.
use Rattle.std.specs.Prelude.{◌≡◌, Bool, true, List, ◌++◌, ℕ, ◌<◌, Result, Ok, Err, length, get_or, drop}
use Rattle.model.specs.Lists.{any}
use Rattle.model.specs.Words.{bit, bits}
use Rattle.model.specs.Replies.{Reply, refused, answered}
use Rattle.model.specs.PatternText.{symbol_at}
use Rattle.model.specs.PatternStates.{State, start, passed}
use Rattle.refusals.specs.Numbers.{number}
use Rattle.refusals.specs.declared.Refusal.{Refusal}

-- the places of each symbol, so far of those below i
pub record Sorted (s : List ℕ) (i : ℕ) (P : List ℕ) : Type 0 where
  pub size : length P ≡ 64
  pub sound : (a p : ℕ) → bit (get_or P a 0) p ≡ true → (p < i) × (symbol_at s p ≡ a)
  pub complete : (p : ℕ) → p < i → bit (get_or P (symbol_at s p) 0) p ≡ true

-- a reading may end in this state, by the sets that the readers left
unfoldable pub final_in : Bool → ℕ → State → Bool
final_in nullable lasts start = nullable
final_in nullable lasts (passed w) = any (bit lasts) (bits w)

-- "The answer is the number of bytes written; bytes past them are untouched"; a refusal writes nothing
unfoldable pub Told : Reply (List ℕ) → List ℕ → List ℕ → Result ℕ Refusal → Type 0
Told (refused m) B C (Err e) = (number e ≡ m) × (C ≡ B)
Told (refused m) B C (Ok n) = ⊥
Told (answered bs) B C (Err e) = ⊥
Told (answered bs) B C (Ok n) = (n ≡ length bs) × (C ≡ bs ++ drop n B)
