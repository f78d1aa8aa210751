-- Support for any kind of choice. K is the type of a choice, `Ok` says which choices count, and `bits_of` gives the bits that a choice uses in word i of the n
-- words that are asked for: of a string's row, or of a number. Assumes nothing.
use Rattle.std.specs.Prelude.{◌≡◌, true, List, ℕ, suc, ◌<◌, length, get_or}
use Rattle.model.specs.Words.{bit, word}

-- these n words have just the bits that some choice that counts uses
pub record Supports {K : Type 0} (Ok : K → Type 0) (bits_of : K → ℕ → ℕ) (n : ℕ) (r : List ℕ) : Type 0 where
  pub count : length r ≡ n
  pub sound : (i b : ℕ) → i < n → bit (word r i) b ≡ true → (v : K) × Ok v × (bit (bits_of v i) b ≡ true)
  pub complete : (i b : ℕ) → i < n → (v : K) → Ok v → bit (bits_of v i) b ≡ true → bit (word r i) b ≡ true

-- choices of the kinds below m: a loop over the kinds
abbrev pub OfKinds : {K : Type 0} → (ℕ → K → Type 0) → ℕ → K → Type 0
OfKinds A m v = (t : ℕ) × (t < m) × A t v

-- the row allows the string: its length, and each of its symbols at its place
pub record InRow (r w : List ℕ) : Type 0 where
  pub length-bit : bit (word r 0) (length w) ≡ true
  pub symbol-bits : (j : ℕ) → j < length w → bit (word r (suc j)) (get_or w j 0) ≡ true
