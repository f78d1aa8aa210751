-- What the program prints (document 01, "The search tree", its last paragraph): from all bytes of standard input to all bytes of standard output.
-- Assumes nothing.
use Rattle.std.specs.Prelude.{cond, ℕ, zero, suc, ◌+◌, ◌*◌, ◌/◌, ◌%◌, ltb, leb, length, replicate}
use mathlib.Core.List.{List, [], ◌∷◌, ◌++◌, flat_map}
use Rattle.model.specs.Lists.{upto}
use Rattle.model.specs.Domains.{strings_of, values_of}
use Rattle.model.specs.Constraints.{Problem, width}
use Rattle.model.specs.Tree.{Outcome, found, none, spent}
use Rattle.model.specs.Replies.{Reply, refused, answered, require, and_then}
use Rattle.model.specs.Reading.{Reading, reading}
use Rattle.model.specs.Operations.{search}

-- ---- a line

-- a digit below 10 in ASCII
abbrev pub digit : ℕ → ℕ
digit d = 48 + d

-- the numeral of a number of at most f digits: the digits before the last are the numeral of the tenth part
unfoldable pub decimal_in : ℕ → ℕ → List ℕ
decimal_in zero n = []
decimal_in (suc f) n = let before = decimal_in f (n / 10) in cond (ltb n 10) (digit n ∷ []) (before ++ (digit (n % 10) ∷ []))

-- "its numbers in decimal": n has at most n + 1 digits. The equation a reader expects is `decimal_step` (crates/listing, NumeralLaws):
-- decimal n ≡ cond (ltb n 10) (digit n ∷ []) (decimal (n / 10) ++ (digit (n % 10) ∷ [])).
unfoldable pub decimal : ℕ → List ℕ
decimal n = decimal_in (suc n) n

-- "its fields parted by one space": one more field, a number
unfoldable pub field : ℕ → List ℕ
field n = 32 ∷ decimal n

-- "Each of these is one line ended by a newline": its first field, and the numbers behind it
unfoldable pub line : List ℕ → List ℕ → List ℕ
line first numbers = first ++ (flat_map field numbers ++ (10 ∷ []))

-- ---- what is printed after `found`

-- "for each string `s`, its position, its length and its symbols"; "the position directly follows its letter, and an empty string's line ends after its length 0"
unfoldable pub string_line : ℕ → List ℕ → List ℕ
string_line x u = line (115 ∷ decimal x) (length u ∷ u)

-- "for each number `n`, its position and its value"; "the position directly follows its letter"
unfoldable pub number_line : ℕ → ℕ → List ℕ
number_line n v = line (110 ∷ decimal n) (v ∷ [])

-- "it prints for each string … then for each number": a line for each value of each domain, and in a solved table each domain has exactly one
unfoldable pub solution_lines : Problem → List ℕ → List ℕ
solution_lines P T =
    flat_map (λ x. flat_map (string_line x) (strings_of T x)) (upto P.strings)
    ++ flat_map (λ n. flat_map (number_line n) (values_of P.strings T n)) (upto P.numbers)

-- ---- how it ended

-- `found`, `none`, `spent`, `refused`
abbrev pub found_bytes : List ℕ
found_bytes = 102 ∷ 111 ∷ 117 ∷ 110 ∷ 100 ∷ []

abbrev pub none_bytes : List ℕ
none_bytes = 110 ∷ 111 ∷ 110 ∷ 101 ∷ []

abbrev pub spent_bytes : List ℕ
spent_bytes = 115 ∷ 112 ∷ 101 ∷ 110 ∷ 116 ∷ []

abbrev pub refused_bytes : List ℕ
refused_bytes = 114 ∷ 101 ∷ 102 ∷ 117 ∷ 115 ∷ 101 ∷ 100 ∷ []

-- "It prints `found`, `none`, `spent` … and the count"; "After `found` it prints" the solution
unfoldable pub outcome_lines : Problem → List ℕ → Outcome → List ℕ
outcome_lines P T (found n) = line found_bytes (n ∷ []) ++ solution_lines P T
outcome_lines P T (none n) = line none_bytes (n ∷ [])
outcome_lines P T (spent n) = line spent_bytes (n ∷ [])

-- "It prints … `refused` and the … refusal number"
unfoldable pub reply_lines : Reply (List ℕ) → List ℕ
reply_lines (refused n) = line refused_bytes (n ∷ [])
reply_lines (answered text) = text

-- ---- the program

-- "with budget 65,536"; the room and the answer table are the program's own, and as long as Search asks, so that it refuses neither
unfoldable pub search_lines : Reading → Reply (List ℕ)
search_lines r = and_then r (λ a.
    let m = width a.problem in
    and_then (search r 65536 (replicate (3 * m) 0) (replicate m 0)) (λ z. answered (outcome_lines a.problem z.table z.outcome)))

-- "The program reads one problem from standard input"; "An input longer than the largest file prints `refused 4`, whatever its end holds";
-- "The largest file has 25,024 bytes"
unfoldable pub listing : List ℕ → List ℕ
listing input = reply_lines (require (leb (length input) 25024) 4 (search_lines (reading input)))
