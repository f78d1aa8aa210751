-- Places that face those of another row read backwards, and the strings of X that are a string of Y read backwards. Assumes nothing.
use Rattle.std.specs.Prelude.{Option, Some, None, ◌≡◌, ◌≢◌, Bool, true, false, List, reverse, ℕ, suc, ◌+◌, ◌-◌, ◌*◌, ◌^◌, ◌≤◌, ◌<◌, length}
use Rattle.std.specs.Int.Bits.{bit_and, bit_or}
use Rattle.model.specs.Words.{bit, word}
use Rattle.model.specs.Domains.{row}
use Rattle.model.specs.Solutions.{text_bit}
use Rattle.laws.specs.Supported.{InRow, Supports}
use Rattle.inplace.specs.InTable.{Tidy}
use Rattle.inplace.specs.Written.{Written}

-- what place i after a allows together with the place after b that faces it, where both strings have l symbols
abbrev pub facing : List ℕ → ℕ → ℕ → ℕ → ℕ → ℕ
facing T a b l i = bit_and (word T (suc (a + i))) (word T (suc (b + (l - suc i))))

-- m places after a become what they allow together with those that face them, which is something
pub record Turning (T : List ℕ) (a b l : ℕ) (U : List ℕ) (m : ℕ) (changed : Bool) : Type 0 where
  pub filled : (i : ℕ) → i < m → 0 < facing T a b l i
  pub written : Written T a (facing T a b l) m U changed

-- all l of them do, or those before one that allows nothing so
pub record Turn (T : List ℕ) (a b l : ℕ) (U : List ℕ) (r : Option Bool) : Type 0 where
  pub all : (changed : Bool) → r ≡ Some changed → Turning T a b l U l changed
  pub stop : r ≡ None → (m : ℕ) × (m < l) × (facing T a b l m ≡ 0) × ((changed : Bool) × Turning T a b l U m changed)

-- whether all l places so allow something
pub record Turns (T : List ℕ) (a b l : ℕ) (all : Bool) : Type 0 where
  pub filled : all ≡ true → (i : ℕ) → i < l → 0 < facing T a b l i
  pub empty : all ≡ false → (i : ℕ) × (i < l) × (facing T a b l i ≡ 0)

-- s is the row r with what n places after a allow together with those that face them
pub record Added (T : List ℕ) (a b l : ℕ) (r : List ℕ) (n : ℕ) (s : List ℕ) : Type 0 where
  pub size : length s ≡ 64
  pub first : word s 0 ≡ word r 0
  pub low : (i : ℕ) → i < n → word s (suc i) ≡ bit_or (word r (suc i)) (facing T a b l i)
  pub high : (i : ℕ) → n ≤ i → word s (suc i) ≡ word r (suc i)

-- a string of x of l symbols that is a string of y read backwards
pub record Turned (x y : List ℕ) (l : ℕ) (u : List ℕ) : Type 0 where
  pub own : InRow x u
  pub other : InRow y (reverse u)
  pub long : length u ≡ l

-- one of any length, but of those that are still to come
pub record Mirrored (x y : List ℕ) (rest : ℕ) (u : List ℕ) : Type 0 where
  pub own : InRow x u
  pub other : InRow y (reverse u)
  pub done : bit rest (length u) ≡ false

-- both strings have these lengths
pub record Common (T : List ℕ) (x y ls : ℕ) : Type 0 where
  pub first : (n : ℕ) → bit ls n ≡ true → bit (word T (64 * x)) n ≡ true
  pub second : (n : ℕ) → bit ls n ≡ true → bit (word T (64 * y)) n ≡ true
  pub all : (n : ℕ) → bit (word T (64 * x)) n ≡ true → bit (word T (64 * y)) n ≡ true → bit ls n ≡ true

-- both strings may have l symbols
pub record Allowed (T : List ℕ) (x y l : ℕ) : Type 0 where
  pub fits-x : 64 * x + 64 ≤ length T
  pub fits-y : 64 * y + 64 ≤ length T
  pub small : l < 64
  pub in_x : bit (word T (64 * x)) l ≡ true
  pub in_y : bit (word T (64 * y)) l ≡ true

-- where the row r had the support of those strings, but for the lengths still to come, s has it with length l too
pub record Widened (T : List ℕ) (x y l : ℕ) (r s : List ℕ) : Type 0 where
  pub wider : (rest : ℕ) → bit rest l ≡ true → Supports (Mirrored (row T x) (row T y) rest) text_bit 64 r
      → Supports (Mirrored (row T x) (row T y) (rest - 2 ^ l)) text_bit 64 s

-- two strings with tidy rows, and the lengths that both have, which are some
pub record Pair (T : List ℕ) (x y ls : ℕ) : Type 0 where
  pub fits-x : 64 * x + 64 ≤ length T
  pub fits-y : 64 * y + 64 ≤ length T
  pub apart : y ≢ x
  pub tidy-x : Tidy (row T x)
  pub tidy-y : Tidy (row T y)
  pub lengths : Common T x y ls
  pub some : 0 < ls
