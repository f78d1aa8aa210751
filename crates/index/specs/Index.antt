-- The index of a problem's constraints by the variables that they name. Assumes nothing.
use Rattle.std.specs.Prelude.{◌≡◌, true, List, ℕ, ◌+◌, ◌<◌, length, get_or}
use Rattle.model.specs.Words.{bit, word}
use Rattle.model.specs.Domains.{Variable, str, num}
use Rattle.model.specs.Constraints.{Problem, always, variables}
use Rattle.model.specs.Solutions.{InRange}
use Rattle.laws.specs.Inclusion.{In}

-- where a variable's word stands in the index, in a problem of s strings: strings, then numbers
unfoldable pub position : ℕ → Variable → ℕ
position s (str x) = x
position s (num n) = s + n

-- bit j of a variable's word is set just where constraint j, of the first n, names the variable, and no word has other bits
pub record Named (P : Problem) (n : ℕ) (ix : List ℕ) : Type 0 where
  pub names : (j : ℕ) → j < n → (v : Variable) → In v (variables (get_or P.constraints j (always 0))) → bit (word ix (position P.strings v)) j ≡ true
  pub only : (j : ℕ) (v : Variable) → InRange P v → bit (word ix (position P.strings v)) j ≡ true → In v (variables (get_or P.constraints j (always 0)))
  pub inside : (i j : ℕ) → bit (word ix i) j ≡ true → j < n

-- the whole index
abbrev pub Index : Problem → List ℕ → Type 0
Index P ix = Named P (length P.constraints) ix

-- what waking asks of it, which has one proof at most: bit j of a variable's word is set where constraint j names the variable, and no word has bits but constraints'
pub record Marked (P : Problem) (ix : List ℕ) : Type 0 where
  pub names : (j : ℕ) → j < length P.constraints → (v : Variable) → In v (variables (get_or P.constraints j (always 0))) → bit (word ix (position P.strings v)) j ≡ true
  pub inside : (i j : ℕ) → bit (word ix i) j ≡ true → j < length P.constraints
