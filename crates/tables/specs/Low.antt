-- What refusals 6 and 10 ask of one word of a string's row. Assumes nothing.
use Rattle.std.specs.Prelude.{◌≡◌, Bool, ◌||◌, List, ℕ, ◌%◌, ◌<◌, eqb}
use Rattle.model.specs.Words.{word, none_from}

-- w may stand as word i: it is a length word, or has no bit at k or above
unfoldable pub low_at : ℕ → ℕ → ℕ → Bool
low_at k i w = eqb (i % 64) 0 || none_from k w

-- what is got at i, for each i below n, is word i of T
abbrev pub Gives : (ℕ → ℕ → Type 0) → ℕ → List ℕ → Type 0
Gives Got n T = (i w : ℕ) → i < n → Got i w → w ≡ word T i
