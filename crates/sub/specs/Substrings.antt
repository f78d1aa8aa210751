-- What the functions of a step of Sub in place require and ensure: word by word, or by the strings of the rows x and y of X and Y. Assumes nothing.
use Rattle.std.specs.Prelude.{◌≡◌, ◌⊎◌, ◌≢◌, Bool, true, false, List, ℕ, suc, ◌+◌, ◌-◌, ◌*◌, ◌^◌, ◌≤◌, ◌<◌, length, get_or}
use Rattle.std.specs.Int.Bits.{bit_and, bit_or}
use Rattle.model.specs.Words.{bit, word}
use Rattle.model.specs.Domains.{row}
use Rattle.model.specs.Solutions.{text_bit}
use Rattle.words.specs.Ends.{Highest, Lowest}
use Rattle.laws.specs.Supported.{InRow, Supports}
use Rattle.inplace.specs.InTable.{Tidy, Only, Changed, Flag}

-- ---- one start

-- what x and y allow together at place j of a part after off symbols
abbrev pub common : List ℕ → List ℕ → ℕ → ℕ → ℕ
common x y off j = bit_and (word x (suc (off + j))) (word y (suc j))

-- the rows of x and y are there; the least and the greatest length of y, and the greatest of x
pub record Room (T : List ℕ) (x y least most longest : ℕ) : Type 0 where
  pub fits-x : 64 * x + 64 ≤ length T
  pub fits-y : 64 * y + 64 ≤ length T
  pub low : Lowest (word (row T y) 0) least
  pub high : Highest (word (row T y) 0) most
  pub top : Highest (word (row T x) 0) longest

-- a part of y's least length fits after off symbols into an x of the greatest length
pub record Alive (x y : List ℕ) (off least longest : ℕ) : Type 0 where
  pub far : off + least ≤ longest
  pub filled : (j : ℕ) → j < least → 0 < common x y off j

-- w is a string of y that x allows after off symbols, and that ends by x's place top
pub record Fitting (x y : List ℕ) (off top : ℕ) (w : List ℕ) : Type 0 where
  pub inside : InRow y w
  pub short : off + length w ≤ top
  pub allowed : (j : ℕ) → j < length w → bit (word x (suc (off + j))) (get_or w j 0) ≡ true

-- the start after off symbols is left: its word is u, and s is the row r with what the strings use that fit there
pub record Entering (x y : List ℕ) (off least longest : ℕ) (r s : List ℕ) (u : ℕ) : Type 0 where
  pub alive : Alive x y off least longest
  pub start : u ≡ 2 ^ suc off
  pub size : length s ≡ 64
  pub row : List ℕ
  pub right : Supports (Fitting x y off longest) text_bit 64 row
  pub joined : (i : ℕ) → i < 64 → word s i ≡ bit_or (word r i) (word row i)

-- the start is not left: no word, and the row stays
pub record Passing (x y : List ℕ) (off least longest : ℕ) (r s : List ℕ) (u : ℕ) : Type 0 where
  pub dead : Alive x y off least longest → ⊥
  pub start : u ≡ 0
  pub same : s ≡ r

abbrev pub Entered : List ℕ → List ℕ → ℕ → ℕ → ℕ → List ℕ → List ℕ → ℕ → Type 0
Entered x y off least longest r s u = Entering x y off least longest r s u ⊎ Passing x y off least longest r s u

-- ---- the starts

-- w is a string of y that fits at one of these starts
abbrev pub Somewhere : List ℕ → List ℕ → ℕ → ℕ → List ℕ → Type 0
Somewhere x y longest found w = (off : ℕ) × (bit found (suc off) ≡ true) × Fitting x y off longest w

-- found are the starts of n that are left, apart from those after the symbols rest, which are still to come; r has what the strings use that fit there
pub record Started (x y : List ℕ) (n least longest rest found : ℕ) (r : List ℕ) : Type 0 where
  pub sound : (b : ℕ) → bit found b ≡ true → (bit n b ≡ true) × ((off : ℕ) × (b ≡ suc off) × Alive x y off least longest)
  pub complete : (off : ℕ) → bit n (suc off) ≡ true → bit rest off ≡ false → Alive x y off least longest → bit found (suc off) ≡ true
  pub coming : (off : ℕ) → bit rest off ≡ true → bit n (suc off) ≡ true
  pub parts : Supports (Somewhere x y longest found) text_bit 64 r

-- ---- the places of X

-- place i lies at or after each of the starts n, and the place of the row after b that comes to lie there is one of len words
pub record Reaching (len b n i : ℕ) : Type 0 where
  pub near : (off : ℕ) → bit n (suc off) ≡ true → off ≤ i
  pub inside : b + i + 1 < len

-- w has what the places allow that come to lie on place i by the starts n, apart from those after the symbols rest
pub record Over (T : List ℕ) (b n i rest w : ℕ) : Type 0 where
  pub sound : (a : ℕ) → bit w a ≡ true → (off : ℕ) × (bit n (suc off) ≡ true) × (bit (word T (suc (b + (i - off)))) a ≡ true)
  pub complete : (off a : ℕ) → bit n (suc off) ≡ true → bit rest off ≡ false → bit (word T (suc (b + (i - off)))) a ≡ true → bit w a ≡ true
  pub coming : (off : ℕ) → bit rest off ≡ true → bit n (suc off) ≡ true

-- no start of n comes after the place `from`
pub record Covered (T : List ℕ) (x y n from to : ℕ) : Type 0 where
  pub fits-x : 64 * x + 64 ≤ length T
  pub fits-y : 64 * y + 64 ≤ length T
  pub apart : y ≢ x
  pub near : (off : ℕ) → bit n (suc off) ≡ true → off ≤ from
  pub small : to < 64

-- w is what x allows at place i, and y at the place that comes to lie there by one of the starts n
pub record Fixed (x y : List ℕ) (n i w : ℕ) : Type 0 where
  pub sound : (a : ℕ) → bit w a ≡ true → (bit (word x (suc i)) a ≡ true) × ((off : ℕ) × (bit n (suc off) ≡ true) × (bit (word y (suc (i - off))) a ≡ true))
  pub complete : (off a : ℕ) → bit n (suc off) ≡ true → bit (word x (suc i)) a ≡ true → bit (word y (suc (i - off))) a ≡ true → bit w a ≡ true

-- the places after a, of those from `from` up to `to`, are written up to i, each with a word that is right there; whether one differs
pub record Written (Right : ℕ → ℕ → Type 0) (T : List ℕ) (a from to i : ℕ) (U : List ℕ) (changed : Bool) : Type 0 where
  pub size : length U ≡ length T
  pub done : (j : ℕ) → from ≤ j → j < i → Right j (word U (suc (a + j)))
  pub kept : (k : ℕ) → ((j : ℕ) → from ≤ j → j < i → j < to → k ≢ suc (a + j)) → word U k ≡ word T k
  pub flag : Changed (λ j. word U (suc (a + j))) (λ j. word T (suc (a + j))) to changed

-- ---- the rows

-- n are starts that are left, and there is one
pub record Left (T : List ℕ) (x y n least : ℕ) : Type 0 where
  pub fits-x : 64 * x + 64 ≤ length T
  pub fits-y : 64 * y + 64 ≤ length T
  pub apart : y ≢ x
  pub tidy : Tidy (row T x)
  pub some : 0 < n
  pub alive : (b : ℕ) → bit n b ≡ true → (off : ℕ) × (b ≡ suc off) × Alive (row T x) (row T y) off least tidy.top

-- the lengths of x that the start leaves, and the symbols at a place: in the part, those that y allows too
pub record Allowed (x y : List ℕ) (off least i a : ℕ) : Type 0 where
  pub own : bit (word x i) a ≡ true
  pub long : i ≡ 0 → off + least ≤ a
  pub part : (j : ℕ) → j < least → i ≡ suc (off + j) → bit (word y (suc j)) a ≡ true

-- the row of x has just what one of the starts n allows
pub record Wholes (T : List ℕ) (x y n least : ℕ) (U : List ℕ) (changed : Bool) : Type 0 where
  pub only : Only T x U
  pub sound : (i a : ℕ) → i < 64 → bit (word (row U x) i) a ≡ true → (off : ℕ) × (bit n (suc off) ≡ true) × Allowed (row T x) (row T y) off least i a
  pub complete : (i a off : ℕ) → i < 64 → bit n (suc off) ≡ true → Allowed (row T x) (row T y) off least i a → bit (word (row U x) i) a ≡ true
  pub tidy : Tidy (row U x)
  pub flag : Flag (row T x) (row U x) changed
