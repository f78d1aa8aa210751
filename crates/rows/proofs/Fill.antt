-- Lists by their indices: f 0, f 1, .. up to a number. Assumes nothing.
use mathlib.Core.Path.{◌≡◌, ap, ◌∙◌}
use mathlib.Core.List.{map}
use Prim.Native.Nat.{ℕ, ◌+◌, ◌<◌}
use native.Mathlib.Omega.{arith}
use lib.ListN.{length, length-map}
use Rattle.model.specs.Lists.{upto, from}
use Rattle.model.specs.Words.{word}
use Rattle.laws.proofs.ListLaws.{from-length, from-get_or}

-- f 0 to f (n - 1)
pub tabulated_length : (f : ℕ → ℕ) (n : ℕ) → length (map f (upto n)) ≡ n
unfolding upto
tabulated_length f n = length-map (from 0 n) f ∙ from-length 0 n

pub tabulated_word : (f : ℕ → ℕ) (n i : ℕ) → i < n → word (map f (upto n)) i ≡ f i
unfolding upto
tabulated_word f n i h = let q : 0 + i ≡ i = omega arith in from-get_or f 0 n i 0 h ∙ ap f q
