-- What functions on a lent table ensure, word by word; the places of a row lie after its first word. Assumes nothing.
use Rattle.std.specs.Prelude.{◌≡◌, ◌≢◌, Bool, true, false, List, ℕ, suc, ◌+◌, ◌*◌, ◌<◌, ◌≤◌, length, replicate}
use Rattle.std.specs.Int.Bits.{bit_and}
use Rattle.model.specs.Words.{bit, word}
use Rattle.model.specs.Domains.{row}
use Rattle.words.specs.Ends.{Highest}
use Rattle.rows.specs.Rows.{trimmed, stored}
use Rattle.rows.specs.Parts.{Cut}

-- a row with a value, every bit of which a string of the row uses: h is its longest length
pub record Tidy (r : List ℕ) : Type 0 where
  pub top : ℕ
  pub longest : Highest (word r 0) top
  pub filled : (i : ℕ) → i < top → 0 < word r (suc i)
  pub gone : (i : ℕ) → top ≤ i → word r (suc i) ≡ 0

-- m places after a, of at most lim, each allow a symbol, and the next does not
pub record Ran (T : List ℕ) (a lim m : ℕ) : Type 0 where
  pub small : m ≤ lim
  pub filled : (i : ℕ) → i < m → 0 < word T (suc (a + i))
  pub stop : m < lim → word T (suc (a + m)) ≡ 0

-- U is T with nothing at the places after a from top on, up to end
pub record Cleared (T : List ℕ) (a top end : ℕ) (U : List ℕ) : Type 0 where
  pub size : length U ≡ length T
  pub gone : (i : ℕ) → top ≤ i → i < end → word U (suc (a + i)) ≡ 0
  pub kept : (k : ℕ) → ((i : ℕ) → top ≤ i → i < end → k ≢ suc (a + i)) → word U k ≡ word T k

-- word k is not one of string x's row
abbrev pub Out : ℕ → ℕ → Type 0
Out x k = (j : ℕ) → j < 64 → k ≢ 64 * x + j

-- only words of string x's row differ
pub record Only (T : List ℕ) (x : ℕ) (U : List ℕ) : Type 0 where
  pub size : length U ≡ length T
  pub before : (k : ℕ) → k < 64 * x → word U k ≡ word T k
  pub after : (k : ℕ) → 64 * x + 64 ≤ k → word U k ≡ word T k

-- the row has a length, and no symbol past its longest
pub record Ended (r : List ℕ) : Type 0 where
  pub top : ℕ
  pub longest : Highest (word r 0) top
  pub past : (i : ℕ) → top ≤ i → word r (suc i) ≡ 0

-- the row of x can be cut to these lengths
pub record Ready (T : List ℕ) (x ls : ℕ) : Type 0 where
  pub fits : 64 * x + 64 ≤ length T
  pub some : 0 < ls
  pub within : (b : ℕ) → bit ls b ≡ true → bit (word T (64 * x)) b ≡ true
  pub ended : Ended (row T x)

-- the row of x has these lengths and no symbols past them; whether it differs
pub record Shortened (T : List ℕ) (x ls : ℕ) (U : List ℕ) (changed : Bool) : Type 0 where
  pub only : Only T x U
  pub top : ℕ
  pub longest : Highest ls top
  pub cut : Cut (row T x) ls top (row U x)
  pub same : changed ≡ false → U ≡ T
  pub less : changed ≡ true → word T (64 * x) ≢ ls

-- the row of x is trimmed, or, where it has no string, nothing is written
pub record Trimmed (T : List ℕ) (x : ℕ) (U : List ℕ) (some : Bool) : Type 0 where
  pub left : some ≡ true → (U ≡ stored T x (trimmed (row T x))) × Tidy (row U x)
  pub nothing : some ≡ false → (U ≡ T) × (replicate 64 0 ≡ trimmed (row T x))

-- whether the first m of two rows of words differ
pub record Changed (f g : ℕ → ℕ) (m : ℕ) (changed : Bool) : Type 0 where
  pub same : changed ≡ false → (i : ℕ) → i < m → f i ≡ g i
  pub differ : changed ≡ true → (i : ℕ) × (i < m) × (f i ≢ g i)

-- n places after a and n places after b are different words
pub record Apart (a b n : ℕ) : Type 0 where
  pub apart : (i j : ℕ) → i < n → j < n → a + i ≢ b + j

-- what places a and b both allow
abbrev pub both : List ℕ → ℕ → ℕ → ℕ → ℕ
both T a b i = bit_and (word T (suc (a + i))) (word T (suc (b + i)))

-- m places after a and after b become what both allow, which is something
pub record Meeting (T : List ℕ) (a b : ℕ) (U : List ℕ) (m : ℕ) (changed-a changed-b : Bool) : Type 0 where
  pub size : length U ≡ length T
  pub first : (i : ℕ) → i < m → word U (suc (a + i)) ≡ both T a b i
  pub second : (i : ℕ) → i < m → word U (suc (b + i)) ≡ both T a b i
  pub filled : (i : ℕ) → i < m → 0 < both T a b i
  pub kept : (k : ℕ) → ((i : ℕ) → i < m → k ≢ suc (a + i)) → ((i : ℕ) → i < m → k ≢ suc (b + i)) → word U k ≡ word T k
  pub flag-a : Changed (λ i. word U (suc (a + i))) (λ i. word T (suc (a + i))) m changed-a
  pub flag-b : Changed (λ i. word U (suc (b + i))) (λ i. word T (suc (b + i))) m changed-b

-- of at most lim places, and the next two allow nothing together
pub record Meet (T : List ℕ) (a b lim : ℕ) (U : List ℕ) (m : ℕ) (changed-a changed-b : Bool) : Type 0 where
  pub small : m ≤ lim
  pub stop : m < lim → both T a b m ≡ 0
  pub done : Meeting T a b U m changed-a changed-b

-- m places after a and after b, of at most lim, each allow a symbol together, and the next do not
pub record Meets (T : List ℕ) (a b lim m : ℕ) : Type 0 where
  pub small : m ≤ lim
  pub filled : (i : ℕ) → i < m → 0 < both T a b i
  pub stop : m < lim → both T a b m ≡ 0

-- whether a row differs
pub record Flag (r u : List ℕ) (changed : Bool) : Type 0 where
  pub same : changed ≡ false → u ≡ r
  pub differ : changed ≡ true → u ≢ r

abbrev pub zeros : List ℕ
zeros = replicate 64 0
