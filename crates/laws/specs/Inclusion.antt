-- What lies within what: an element in a list, the bits of a word in another, those of a table in another. Assumes nothing.
use Rattle.std.specs.Prelude.{◌≡◌, ◌≢◌, true, ℕ, ◌<◌, length}
use mathlib.Core.List.{List, [], ◌∷◌, Memᴰ}
use Rattle.model.specs.Words.{bit, bits, word}

-- x is an element of the list
abbrev pub In : {A : Type 0} → A → List A → Type 0
In x xs = Memᴰ x xs

-- no number of the list stands in it twice
abbrev pub Distinct : List ℕ → Type 0
Distinct [] = Unit {0}
Distinct (x ∷ xs) = ((y : ℕ) → In y xs → y ≢ x) × Distinct xs

-- the word has at most one bit
abbrev pub Single : ℕ → Type 0
Single w = length (bits w) < 2

-- every bit of the first word is in the second
abbrev pub Within : ℕ → ℕ → Type 0
Within w v = (b : ℕ) → bit w b ≡ true → bit v b ≡ true

-- T has no bit that U lacks
pub record Below (T U : List ℕ) : Type 0 where
  pub same_length : length T ≡ length U
  pub within : (i : ℕ) → Within (word T i) (word U i)
