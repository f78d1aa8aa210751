-- The ring that holds the numbers of the steps that wait, and what the functions of the queue make of it. Assumes nothing.
use Rattle.std.specs.Prelude.{◌≡◌, Bool, true, false, not, ◌&&◌, ◌||◌, List, [], ◌∷◌, ◌++◌, map, ℕ, zero, suc, ◌+◌, ◌*◌, ◌%◌, ◌≤◌, ◌<◌, eqb, ltb, length, get_or}
use Rattle.model.specs.Words.{bit, bits}
use Rattle.model.specs.Constraints.{Problem, variables}
use Rattle.model.specs.Support.{narrowed, struck}
use Rattle.model.specs.Operations.{step_at, step_count}
use Rattle.model.specs.Queue.{joining, waiting_after}
use Rattle.laws.specs.Line.{waits, Line}
use Rattle.index.specs.Index.{position}
use Rattle.index.specs.declared.positions.Positions.{Positions}
use Rattle.index.specs.Standing.{listed}
use Rattle.striking.specs.Strikes.{TrimmedIn}
use Rattle.queue.specs.declared.Steps.{Steps}
use Rattle.queue.specs.declared.Queue.{Queue}

-- n numbers of a ring of 128, from place i on
unfoldable pub held : List ℕ → ℕ → ℕ → List ℕ
held R i zero = []
held R i (suc n) = get_or R (i % 128) 0 ∷ held R (suc i) n

-- the ring begins with the numbers below n
pub record Filled (n : ℕ) (R : List ℕ) : Type 0 where
  pub size : length R ≡ 128
  pub numbers : (i : ℕ) → i < n → get_or R i 0 ≡ i

-- the numbers base + b, for the bits b of w, stand in the ring of q behind the last that waited, which made r of it; what it holds before that stays, as far as there is
-- room for all, and nothing else of q changes
pub record Appended (q : Queue) (w base : ℕ) (r : Queue) : Type 0 where
  pub size : length r.ring ≡ 128
  pub ends : r.tail ≡ q.tail + length (bits w)
  pub holds : (i n : ℕ) → i + n ≡ q.tail → n + length (bits w) ≤ 128 → held r.ring i (n + length (bits w)) ≡ held q.ring i n ++ map (λ b. base + b) (bits w)
  pub front : r.head ≡ q.head
  pub marks : r.waiting ≡ q.waiting
  pub trimmed : r.trimmed ≡ q.trimmed

-- v is w without step j, where bit b stands for step 64 * half + b
pub record Without (w half j v : ℕ) : Type 0 where
  pub left : (b : ℕ) → b < 64 → bit v b ≡ (bit w b && not (eqb (64 * half + b) j))

-- w has the steps below n
pub record Below (n : ℕ) (w : Steps) : Type 0 where
  pub low : (b : ℕ) → b < 64 → bit w.low b ≡ ltb (64 * 0 + b) n
  pub high : (b : ℕ) → b < 64 → bit w.high b ≡ ltb (64 * 1 + b) n

-- v has the steps of w but for step j, and those of `more`
pub record After (w : Steps) (j : ℕ) (more v : Steps) : Type 0 where
  pub low : (b : ℕ) → b < 64 → bit v.low b ≡ ((bit w.low b && not (eqb (64 * 0 + b) j)) || bit more.low b)
  pub high : (b : ℕ) → b < 64 → bit v.high b ≡ ((bit w.high b && not (eqb (64 * 1 + b) j)) || bit more.high b)

-- where the variables of step j stand in the index
pub record Places (P : Problem) (j : ℕ) (m : Positions) : Type 0 where
  pub are : listed m ≡ map (position P.strings) (variables (step_at P j))

-- the words say which of the first 128 steps wait
pub record Marks (w : Steps) (js : List ℕ) : Type 0 where
  pub first : (b : ℕ) → b < 64 → bit w.low b ≡ waits js b
  pub second : (b : ℕ) → b < 64 → bit w.high b ≡ waits js (64 + b)

-- the steps that two words stand for, upwards
abbrev pub numbers : Steps → List ℕ
numbers w = bits w.low ++ map (λ b. 64 + b) (bits w.high)

-- w has the steps that join after step j, the front of a line j ∷ js, where it struck anything, and else none
pub record Joins (P : Problem) (waiting : Steps) (j : ℕ) (struck : Bool) (w : Steps) : Type 0 where
  pub none : struck ≡ false → numbers w ≡ []
  pub some : struck ≡ true → (js : List ℕ) → Marks waiting (j ∷ js) → numbers w ≡ joining P j js

-- the ring and the words of q hold the line js of steps of the problem
pub record Ring (P : Problem) (q : Queue) (js : List ℕ) : Type 0 where
  pub size : length q.ring ≡ 128
  pub line : Line P js
  pub holds : held q.ring q.head (length js) ≡ js
  pub ends : q.head + length js ≡ q.tail
  pub marks : Marks q.waiting js

-- the ring and the words of q hold all numbers below n, of which nothing was run, and no string is taken for trimmed
pub record Full (n : ℕ) (q : Queue) : Type 0 where
  pub filled : Filled n q.ring
  pub head : q.head ≡ 0
  pub tail : q.tail ≡ n
  pub marks : Below n q.waiting
  pub trimmed : q.trimmed ≡ 0

-- step j left the front of the line, and the steps of w joined the back: q has become r
pub record Advanced (q : Queue) (j : ℕ) (w : Steps) (trimmed : ℕ) (r : Queue) : Type 0 where
  pub counts : r.head ≡ q.head + 1
  pub same : r.trimmed ≡ trimmed
  pub line : (P : Problem) → step_count P ≤ 80 → (js : List ℕ) → Ring P q (j ∷ js) → Line P (js ++ numbers w) → Ring P r (js ++ numbers w)

-- the front step made U of T, and others joined the line: q has become r
pub record Turned (P : Problem) (T U : List ℕ) (q r : Queue) : Type 0 where
  pub counts : r.head ≡ q.head + 1
  pub table : (j : ℕ) (js : List ℕ) → Ring P q (j ∷ js) → U ≡ narrowed P (step_at P j) T
  pub line : (j : ℕ) (js : List ℕ) → Ring P q (j ∷ js) → Ring P r (waiting_after P (struck T U) j js)
  pub trimmed : TrimmedIn P r.trimmed U
