-- What each operation answers, and what it leaves in the buffers lent to it (document 01, "Operations and what they refuse").
-- Each takes what reading the file gives; refusals 1 to 8 are in there. Assumes nothing.
use Rattle.std.specs.Prelude.{Bool, cond, List, ◌++◌, ℕ, ◌+◌, ◌-◌, ◌*◌, eqb, leb, ltb, length, get_or, replicate, drop}
use Rattle.model.specs.Constraints.{Problem, Constraint, always, width}
use Rattle.model.specs.Support.{narrowed, struck}
use Rattle.model.specs.Rounds.{every_value, settling}
use Rattle.model.specs.Tree.{Outcome, searching}
use Rattle.model.specs.Replies.{Reply, answered, require, and_then}
use Rattle.model.specs.Reading.{Reading, symbols_below}

-- ---- Read

-- k, s, t, d, c
pub record Header : Type 0 where
  pub symbols : ℕ
  pub strings : ℕ
  pub numbers : ℕ
  pub automata : ℕ
  pub constraints : ℕ

-- "Read answers k, s, t, d, c"
unfoldable pub read : Reading → Reply Header
read r = and_then r (λ a. answered (record {
  symbols = a.problem.symbols;
  strings = a.problem.strings;
  numbers = a.problem.numbers;
  automata = length a.problem.automata;
  constraints = length a.problem.constraints;
}))

-- ---- Unpack

-- "9: lent table not 64s + t words long"
unfoldable pub require_length : {A : Type 0} → Problem → List ℕ → Reply A → Reply A
require_length P T next = require (eqb (length T) (width P)) 9 next

-- "Unpack writes the file's table into a lent table": the lent table afterwards
unfoldable pub unpack : Reading → List ℕ → Reply (List ℕ)
unpack r T = and_then r (λ a. require_length a.problem T (answered a.table))

-- ---- Step

-- "1 to 9, then 10: a symbol word of the lent table has a bit at k or above"
unfoldable pub on_table : {A : Type 0} → Reading → List ℕ → (Problem → Reply A) → Reply A
on_table r T f = and_then r (λ a. require_length a.problem T (require (symbols_below a.problem.symbols a.problem.strings T) 10 (f a.problem)))

-- "constraint j for j below c, else trimming of string j - c"
unfoldable pub step_at : Problem → ℕ → Constraint
step_at P j = let c = length P.constraints in cond (ltb j c) (get_or P.constraints j (always 0)) (always (j - c))

-- c + s
abbrev pub step_count : Problem → ℕ
step_count P = length P.constraints + P.strings

-- the bits struck, and the lent table afterwards
pub record Stepped : Type 0 where
  pub struck : ℕ
  pub table : List ℕ

-- "It answers the number of bits struck. … 11: j at or above c + s"
unfoldable pub step : Reading → ℕ → List ℕ → Reply Stepped
step r j T = on_table r T (λ P.
    let U = narrowed P (step_at P j) T in
    require (ltb j (step_count P)) 11 (answered (record { struck = struck T U; table = U })))

-- ---- Settle

-- the rounds, whether every variable has a value, and the lent table afterwards
pub record Settlement : Type 0 where
  pub rounds : ℕ
  pub every_value : Bool
  pub table : List ℕ

-- "It answers the rounds, the last included, and whether every variable still has a value"
unfoldable pub settle : Reading → List ℕ → Reply Settlement
settle r T = on_table r T (λ P.
    let S = settling P T in
    answered (record { rounds = S.rounds; every_value = every_value P S.table; table = S.table }))

-- ---- Search

-- the outcome with its count, and the lent room and answer table afterwards
pub record Searched : Type 0 where
  pub outcome : Outcome
  pub room : List ℕ
  pub table : List ℕ

-- "12: room under 3 × (64s + t) words. 13: answer table not 64s + t words";
-- "After any of the three the room's first 3 × (64s + t) words are 0, and its words beyond are untouched"
unfoldable pub search : Reading → ℕ → List ℕ → List ℕ → Reply Searched
search r budget room A = and_then r (λ a.
    let P = a.problem in
    let m = 3 * width P in
    let S = searching P a.table budget A in
    require (leb m (length room)) 12
    (require (eqb (length A) (width P)) 13
    (answered (record { outcome = S.outcome; room = replicate m 0 ++ drop m room; table = S.table }))))
