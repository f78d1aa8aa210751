-- Rows as tables of their own: what a step on some rows and numbers alone means, and rows word by word. Assumes nothing.
use Rattle.std.specs.Prelude.{List, [], ◌++◌, map, ℕ, ◌+◌, ◌*◌, take, drop}
use Rattle.std.specs.Int.Bits.{bit_and, bit_or}
use Rattle.model.specs.Lists.{upto}
use Rattle.model.specs.Words.{word}
use Rattle.model.specs.Constraints.{Problem, Automaton, always}
use Rattle.model.specs.Support.{narrowed}

-- the problem of s strings and t numbers and nothing else, so that a relation's rows and numbers, one after the other, are its table
unfoldable pub alone : ℕ → ℕ → List Automaton → Problem
alone s t ds = record { symbols = 64; strings = s; numbers = t; constraints = []; automata = ds }

-- a row, trimmed
unfoldable pub trimmed : List ℕ → List ℕ
trimmed r = narrowed (alone 1 0 []) (always 0) r

-- word by word, what both rows allow, and what either allows
unfoldable pub met : List ℕ → List ℕ → List ℕ
met x y = map (λ i. bit_and (word x i) (word y i)) (upto 64)

unfoldable pub joined : List ℕ → List ℕ → List ℕ
joined x y = map (λ i. bit_or (word x i) (word y i)) (upto 64)

-- a table with another row for string x
unfoldable pub stored : List ℕ → ℕ → List ℕ → List ℕ
stored T x r = take (64 * x) T ++ r ++ drop (64 * x + 64) T
