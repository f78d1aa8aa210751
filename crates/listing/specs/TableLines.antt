-- The lines of a table in which every domain has one value, by its words. Assumes nothing.
use Rattle.std.specs.Prelude.{◌≡◌, ℕ, ◌*◌, ◌≤◌, ◌<◌, length, get_or, take, drop, replicate}
use mathlib.Core.List.{List, ◌++◌, map, flat_map}
use Rattle.std.specs.Int.Count.{count_trailing_zeros}
use Rattle.model.specs.Lists.{upto}
use Rattle.model.specs.Domains.{row}
use Rattle.model.specs.Constraints.{width}
use Rattle.model.specs.Replies.{answered}
use Rattle.model.specs.Reading.{Accepted, reading}
use Rattle.model.specs.Listing.{string_line, number_line}

-- the value of a domain that has only this one: the place of its bit
unfoldable pub only_value : ℕ → ℕ
only_value w = count_trailing_zeros 64 w

-- the string of a row that stands for this one only
unfoldable pub text_of : List ℕ → List ℕ
text_of r = map only_value (take (only_value (get_or r 0 0)) (drop 1 r))

-- the lines of the first n rows
unfoldable pub row_lines : List ℕ → ℕ → List ℕ
row_lines T n = flat_map (λ x. string_line x (text_of (row T x))) (upto n)

-- the lines of the first n number words
unfoldable pub word_lines : List ℕ → ℕ → List ℕ
word_lines ws n = flat_map (λ x. number_line x (only_value (get_or ws x 0))) (upto n)

-- the lines of a table of s strings
unfoldable pub table_lines : ℕ → List ℕ → List ℕ
table_lines s T = row_lines T s ++ word_lines (drop (64 * s) T) (length (drop (64 * s) T))

-- each of the first n rows has a length below 64
abbrev pub Lengths : List ℕ → ℕ → Type 0
Lengths T n = (x : ℕ) → x < n → only_value (get_or T (64 * x) 0) < 64

-- a file that Read accepts, of s strings and t numbers
pub record Counted (file : List ℕ) (s t : ℕ) : Type 0 where
  pub file-holds : Accepted
  pub reads : reading file ≡ answered file-holds
  pub strings : s ≡ file-holds.problem.strings
  pub numbers : t ≡ file-holds.problem.numbers

-- a file that Read accepts, of s strings, and what Search is lent for it
pub record Lent (file : List ℕ) (s : ℕ) (room table : List ℕ) : Type 0 where
  pub file-holds : Accepted
  pub reads : reading file ≡ answered file-holds
  pub strings : s ≡ file-holds.problem.strings
  pub room-words : 3 * width file-holds.problem ≤ length room
  pub table-words : table ≡ replicate (width file-holds.problem) 0
