-- What looking a whole file over gives: the number of a refusal, or the parts of a file that none meets, and what such parts hold. Assumes nothing.
use Rattle.std.specs.Prelude.{◌≡◌, List, [], ℕ}
use Rattle.model.specs.Constraints.{Problem}
use Rattle.model.specs.Replies.{Reply, refused, answered, and_then}
use Rattle.model.specs.Layout.{Parts, layout}
use Rattle.model.specs.Reading.{Accepted, problem_of}
use Rattle.layout.specs.declared.Parts as declared
use Rattle.layout.specs.Replied.{parts_of, PartsFit}

-- the paper's number of a refusal, and 0 for an answer
unfoldable pub number_of : {A : Type 0} → Reply A → ℕ
number_of (refused n) = n
number_of (answered a) = 0

-- the parts of a file that none of the refusals 1 to 8 meets
unfoldable pub accepted : List ℕ → Reply Parts
accepted file = and_then (layout file) (λ p. and_then (problem_of p) (λ a. answered p))

-- what an answer gives; a refusal gives a problem of nothing
unfoldable pub given_by : Reply Accepted → Accepted
given_by (refused n) = record { problem = record { symbols = 0; strings = 0; numbers = 0; constraints = []; automata = [] }; table = [] }
given_by (answered a) = a

-- what these parts of a file hold
unfoldable pub content_of : List ℕ → declared.Parts → Accepted
content_of file p = given_by (problem_of (parts_of file p))

-- the problem, and the file's table
abbrev pub problem_in : List ℕ → declared.Parts → Problem
problem_in file p = (content_of file p).problem

abbrev pub table_in : List ℕ → declared.Parts → List ℕ
table_in file p = (content_of file p).table

-- what refusals 1 to 8 leave: the parts fit the file, and reading them gave what they hold
pub record Usable (file : List ℕ) (p : declared.Parts) : Type 0 where
  pub fits : PartsFit file p
  pub read : problem_of (parts_of file p) ≡ answered (content_of file p)
