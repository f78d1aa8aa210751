-- P1 to P14 (document 01, "Examples by hand") as a table of cases: a problem with its table, an operation, and what it gives. Assumes nothing.
use mathlib.Core.List.{List, [], ◌∷◌, ◌++◌, map, foldr}
use Rattle.std.proofs.Math.Option.{some}
use Rattle.std.specs.Prelude.{ℕ, ◌+◌, ◌*◌, ◌^◌, length, take, replicate}
use Rattle.model.specs.Constraints.{Constraint, Automaton, width, eq, neq, rev, cat, sub, len, regular}
use Rattle.model.specs.Tree.{found}
use Rattle.model.specs.Replies.{Reply, answered}
use Rattle.model.specs.Reading.{Accepted}
use Rattle.model.specs.Operations.{Stepped, step, Searched, search}

-- Step j on the file's own table; Search with a budget, in room and an answer table of ones
pub data Operation : Type 0 where
  stepping searching : ℕ → Operation

pub data Result : Type 0 where
  stepped : Reply Stepped → Result
  searched : Reply Searched → Result

pub record Case : Type 0 where
  pub file : Accepted
  pub operation : Operation
  pub result : Result

unfoldable pub perform : Accepted → Operation → Result
perform a (stepping j) = stepped (step (answered a) j a.table)
perform a (searching budget) = let w = width a.problem in searched (search (answered a) budget (replicate (3 * w) 1) (replicate w 1))

abbrev pub Agrees : Case → Type 0
Agrees c = Path Result (perform c.file c.operation) c.result

-- ---- the paper's notation

-- "Braces hold sets"
unfoldable pub set : List ℕ → ℕ
set [] = 0
set (b ∷ bs) = 2 ^ b + set bs

-- "a string's lengths first and then its places from 1"; "Places not given are empty"
unfoldable pub sets : List (List ℕ) → List ℕ
sets bs = take 64 (map set bs ++ replicate 64 0)

-- "quotes show a row standing for one tidy string"
unfoldable pub quote : List ℕ → List ℕ
quote w = sets ((length w ∷ []) ∷ map (λ a. a ∷ []) w)

-- a row that has lost everything
abbrev pub empty : List ℕ
empty = replicate 64 0

unfoldable pub table_from : List (List ℕ) → List (List ℕ) → List ℕ
table_from rows numbers = foldr ◌++◌ (map set numbers) rows

unfoldable pub file_from : ℕ → List Constraint → List Automaton → List (List ℕ) → List (List ℕ) → Accepted
file_from k cs ds rows numbers = record {
  problem = record { symbols = k; strings = length rows; numbers = length numbers; constraints = cs; automata = ds };
  table = table_from rows numbers;
}

-- Step 0 on such a file: the bits struck, and the rows and numbers that it leaves
unfoldable pub step_case : Accepted → ℕ → List (List ℕ) → List (List ℕ) → Case
step_case a n rows numbers = record { file = a; operation = stepping 0; result = stepped (answered (record { struck = n; table = table_from rows numbers })) }

-- ---- the cases; where the paper gives no count of the bits struck, it was counted by hand

-- P1 Trim: lengths {1,2}, A1 {0}, A2 {}: lengths {1}, 1 bit struck
unfoldable pub p1 : Case
p1 = step_case (file_from 4 [] [] (sets ((1 ∷ 2 ∷ []) ∷ (0 ∷ []) ∷ []) ∷ []) []) 1 (quote (0 ∷ []) ∷ []) []

-- P2 Eq: X lengths {2,3}, {1,2,3}, {3}, {1,2,3}; Y lengths {1,2,3}, {1,2} thrice: both empty, 18 bits
unfoldable pub p2 : Case
p2 = step_case (file_from 4 (eq 0 1 ∷ []) [] (
    sets ((2 ∷ 3 ∷ []) ∷ (1 ∷ 2 ∷ 3 ∷ []) ∷ (3 ∷ []) ∷ (1 ∷ 2 ∷ 3 ∷ []) ∷ [])
    ∷ sets ((1 ∷ 2 ∷ 3 ∷ []) ∷ (1 ∷ 2 ∷ []) ∷ (1 ∷ 2 ∷ []) ∷ (1 ∷ 2 ∷ []) ∷ [])
    ∷ []) []) 18 (empty ∷ empty ∷ []) []

-- P3 Eq: lengths {0,2}, {0}, {1} and lengths {0,1,2}, {0}, {2}: both only the empty string
unfoldable pub p3 : Case
p3 = step_case (file_from 4 (eq 0 1 ∷ []) [] (sets ((0 ∷ 2 ∷ []) ∷ (0 ∷ []) ∷ (1 ∷ []) ∷ []) ∷ sets ((0 ∷ 1 ∷ 2 ∷ []) ∷ (0 ∷ []) ∷ (2 ∷ []) ∷ []) ∷ []) [])
    7 (quote [] ∷ quote [] ∷ []) []

-- P4 Neq: X {1}, A1 {0,1}; Y "0": X "1"
unfoldable pub p4 : Case
p4 = step_case (file_from 4 (neq 0 1 ∷ []) [] (sets ((1 ∷ []) ∷ (0 ∷ 1 ∷ []) ∷ []) ∷ quote (0 ∷ []) ∷ []) []) 1 (quote (1 ∷ []) ∷ quote (0 ∷ []) ∷ []) []

-- P5 Neq: X {0,1}, A1 {0}; Y empty string: X "0"
unfoldable pub p5 : Case
p5 = step_case (file_from 4 (neq 0 1 ∷ []) [] (sets ((0 ∷ 1 ∷ []) ∷ (0 ∷ []) ∷ []) ∷ quote [] ∷ []) []) 1 (quote (0 ∷ []) ∷ quote [] ∷ []) []

-- P6 Neq: both "0": both lose everything
unfoldable pub p6 : Case
p6 = step_case (file_from 4 (neq 0 1 ∷ []) [] (quote (0 ∷ []) ∷ quote (0 ∷ []) ∷ []) []) 4 (empty ∷ empty ∷ []) []

-- P7 Rev: X {2}, {0}, {0,1}; Y {2}, {1,2}, {0,2}: X "01", Y "10"
unfoldable pub p7 : Case
p7 = step_case (file_from 4 (rev 0 1 ∷ []) [] (sets ((2 ∷ []) ∷ (0 ∷ []) ∷ (0 ∷ 1 ∷ []) ∷ []) ∷ sets ((2 ∷ []) ∷ (1 ∷ 2 ∷ []) ∷ (0 ∷ 2 ∷ []) ∷ []) ∷ []) [])
    3 (quote (0 ∷ 1 ∷ []) ∷ quote (1 ∷ 0 ∷ []) ∷ []) []

-- P8 Cat: "0", empty string, "0": 0 struck
unfoldable pub p8 : Case
p8 = step_case (file_from 4 (cat 0 1 2 ∷ []) [] (quote (0 ∷ []) ∷ quote [] ∷ quote (0 ∷ []) ∷ []) []) 0 (quote (0 ∷ []) ∷ quote [] ∷ quote (0 ∷ []) ∷ []) []

-- P9 Cat: X {0,1}, {0}; Y {0,1}, {1}; Z {1}, {1}: X empty string, Y "1", Z "1"
unfoldable pub p9 : Case
p9 = step_case (file_from 4 (cat 0 1 2 ∷ []) [] (sets ((0 ∷ 1 ∷ []) ∷ (0 ∷ []) ∷ []) ∷ sets ((0 ∷ 1 ∷ []) ∷ (1 ∷ []) ∷ []) ∷ sets ((1 ∷ []) ∷ (1 ∷ []) ∷ []) ∷ []) [])
    3 (quote [] ∷ quote (1 ∷ []) ∷ quote (1 ∷ []) ∷ []) []

-- P10 Sub: X "01", Y "1", N {0,1,2,3}: N {2}
unfoldable pub p10 : Case
p10 = step_case (file_from 4 (sub 0 1 0 ∷ []) [] (quote (0 ∷ 1 ∷ []) ∷ quote (1 ∷ []) ∷ []) ((0 ∷ 1 ∷ 2 ∷ 3 ∷ []) ∷ []))
    3 (quote (0 ∷ 1 ∷ []) ∷ quote (1 ∷ []) ∷ []) ((2 ∷ []) ∷ [])

-- P11 Sub: X and Y the empty string, N {1}; by ticket 2 "P11 then strikes nothing"
unfoldable pub p11 : Case
p11 = step_case (file_from 4 (sub 0 1 0 ∷ []) [] (quote [] ∷ quote [] ∷ []) ((1 ∷ []) ∷ [])) 0 (quote [] ∷ quote [] ∷ []) ((1 ∷ []) ∷ [])

-- P12 Len: X {0,3}, places 1 to 3 each {0}; N {1,3}: X "000", N {3}
unfoldable pub p12 : Case
p12 = step_case (file_from 4 (len 0 0 ∷ []) [] (sets ((0 ∷ 3 ∷ []) ∷ (0 ∷ []) ∷ (0 ∷ []) ∷ (0 ∷ []) ∷ []) ∷ []) ((1 ∷ 3 ∷ []) ∷ []))
    2 (quote (0 ∷ 0 ∷ 0 ∷ []) ∷ []) ((3 ∷ []) ∷ [])

-- "states 0 (accepting) and 1, symbol 0 changes state, symbol 1 keeps it"
unfoldable pub parity : Automaton
parity = record { accepting = 1; moves = (some 1 ∷ some 0 ∷ []) ∷ (some 0 ∷ some 1 ∷ []) ∷ [] }

-- P13 Regular, k 2: X {1,2}, {0}, {0,1}: X "00"
unfoldable pub p13 : Case
p13 = step_case (file_from 2 (regular 0 0 ∷ []) (parity ∷ []) (sets ((1 ∷ 2 ∷ []) ∷ (0 ∷ []) ∷ (0 ∷ 1 ∷ []) ∷ []) ∷ []) []) 2 (quote (0 ∷ 0 ∷ []) ∷ []) []

-- P14 k 2; X {1,2}, {0,1}, {0,1}; Y {0,1}, {1}; Z {2}, {0}, {0,1}; number {0,1,2,3}; Cat(X, Y, Z), Len(X, number)
unfoldable pub file14 : Accepted
file14 = file_from 2 (cat 0 1 2 ∷ len 0 0 ∷ []) [] (
    sets ((1 ∷ 2 ∷ []) ∷ (0 ∷ 1 ∷ []) ∷ (0 ∷ 1 ∷ []) ∷ [])
    ∷ sets ((0 ∷ 1 ∷ []) ∷ (1 ∷ []) ∷ [])
    ∷ sets ((2 ∷ []) ∷ (0 ∷ []) ∷ (0 ∷ 1 ∷ []) ∷ [])
    ∷ []) ((0 ∷ 1 ∷ 2 ∷ 3 ∷ []) ∷ [])

-- found 2, with s0 "0", s1 "1", s2 "01", n0 1; the room is cleared
unfoldable pub p14 : Case
p14 = record {
  file = file14;
  operation = searching 65536;
  result = searched (answered (record {
    outcome = found 2;
    room = replicate 579 0;
    table = table_from (quote (0 ∷ []) ∷ quote (1 ∷ []) ∷ quote (0 ∷ 1 ∷ []) ∷ []) ((1 ∷ []) ∷ []);
  }));
}

unfoldable pub cases : List Case
cases = p1 ∷ p2 ∷ p3 ∷ p4 ∷ p5 ∷ p6 ∷ p7 ∷ p8 ∷ p9 ∷ p10 ∷ p11 ∷ p12 ∷ p13 ∷ p14 ∷ []

abbrev pub AllAgree : List Case → Type 0
AllAgree [] = Unit {0}
AllAgree (c ∷ cs) = Agrees c × AllAgree cs
