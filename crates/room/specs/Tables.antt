-- Three tables in one lent slice, and what the moves of a search make of them. Assumes nothing.
use Rattle.std.specs.Prelude.{◌≡◌, true, false, List, ◌++◌, ℕ, ◌-◌, ◌*◌, ◌^◌, ◌≤◌, ◌<◌, length, set, take, drop}
use Rattle.model.specs.Words.{several, word}
use Rattle.laws.specs.Traversal.{base}
use Rattle.words.specs.Ends.{Lowest}

-- table q of a room of tables of m words
unfoldable pub table_at : ℕ → ℕ → List ℕ → List ℕ
table_at m q R = take m (drop (m * q) R)

-- the room's tables, in order, and its words beyond
pub record Tables (m : ℕ) (R cur held alt rest : List ℕ) : Type 0 where
  pub current : table_at m 0 R ≡ cur
  pub kept : table_at m 1 R ≡ held
  pub waiting : table_at m 2 R ≡ alt
  pub beyond : drop (3 * m) R ≡ rest

-- a slice, once its n words from `from` on are copied over those from `to` on
unfoldable pub within : ℕ → ℕ → ℕ → List ℕ → List ℕ
within from to n R = take to R ++ (take n (drop from R) ++ drop n (drop to R))

-- s is the lowest value of word `from`, and the others are left in word `to`
pub record Chosen (from to : ℕ) (R U : List ℕ) (s : ℕ) : Type 0 where
  pub value : ℕ
  pub lowest : Lowest (word R from) value
  pub power : s ≡ 2 ^ value
  pub left : U ≡ set R to (word R from - s)

-- going down at a word: the current table is kept, and in it the lowest value is taken while the others wait
pub record Down (m at : ℕ) (R U : List ℕ) : Type 0 where
  pub value : ℕ
  pub lowest : Lowest (word (table_at m 0 R) at) value
  pub tables : Tables m U (set (table_at m 0 R) at (2 ^ value)) (table_at m 0 R)
      (set (table_at m 2 R) at (word (table_at m 0 R) at - 2 ^ value)) (drop (3 * m) R)

-- the next value at the word where the kept table was branched
pub record Sibling (m at : ℕ) (R U : List ℕ) : Type 0 where
  pub value : ℕ
  pub lowest : Lowest (word (table_at m 2 R) at) value
  pub tables : Tables m U (set (table_at m 1 R) at (2 ^ value)) (table_at m 1 R)
      (set (table_at m 2 R) at (word (table_at m 2 R) at - 2 ^ value)) (drop (3 * m) R)

-- the next value at an earlier word: the kept table's words before it, and the file's behind it; F is the file's table
pub record Restart (F : List ℕ) (m at : ℕ) (R U : List ℕ) : Type 0 where
  pub value : ℕ
  pub lowest : Lowest (word (table_at m 2 R) at) value
  pub tables : Tables m U (set (base F (table_at m 1 R) at) at (2 ^ value)) (table_at m 1 R)
      (set (table_at m 2 R) at (word (table_at m 2 R) at - 2 ^ value)) (drop (3 * m) R)

-- word `at` is the first from `from` on with several bits
pub record First (T : List ℕ) (from at : ℕ) : Type 0 where
  pub least : from ≤ at
  pub inside : at < length T
  pub here : several (word T at) ≡ true
  pub before : (j : ℕ) → from ≤ j → j < at → several (word T j) ≡ false

-- no word from `from` on has several bits
pub record AllSingle (T : List ℕ) (from : ℕ) : Type 0 where
  pub single : (j : ℕ) → from ≤ j → j < length T → several (word T j) ≡ false

-- word `at` is the last before `end` that is not 0
pub record Last (T : List ℕ) (end at : ℕ) : Type 0 where
  pub most : at < end
  pub here : 0 < word T at
  pub after : (j : ℕ) → at < j → j < end → word T j ≡ 0

-- every word before `end` is 0
pub record NoneWait (T : List ℕ) (end : ℕ) : Type 0 where
  pub zero : (j : ℕ) → j < end → word T j ≡ 0
