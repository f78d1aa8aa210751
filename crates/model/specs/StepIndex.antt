-- The index of the steps that touch each variable (document 02, ticket 3). Assumes nothing.
use Rattle.std.specs.Prelude.{Bool, ◌&&◌, ℕ, ◌+◌, ◌-◌, ◌*◌, ◌^◌, eqb, leb, ltb, length}
use mathlib.Core.List.{List, [], ◌∷◌, map, flat_map}
use Rattle.model.specs.Lists.{select, any, upto}
use Rattle.model.specs.Words.{union}
use Rattle.model.specs.Domains.{Variable, same_variable}
use Rattle.model.specs.Constraints.{Problem, variables}
use Rattle.model.specs.Rounds.{variables_of}
use Rattle.model.specs.Replies.{Reply, answered, require, and_then}
use Rattle.model.specs.Reading.{Reading}
use Rattle.model.specs.Operations.{step_at, step_count}

-- step j touches variable v: a constraint touches the strings and numbers among its arguments, a trimming its string
unfoldable pub step_touches : Problem → ℕ → Variable → Bool
step_touches P j v = any (same_variable v) (variables (step_at P j))

-- "the steps that touch it", upwards
unfoldable pub touching : Problem → Variable → List ℕ
touching P v = select (λ j. step_touches P j v) (upto (step_count P))

-- the numbers from i to i + 63 of a list, as the bits of a word
unfoldable pub word_from : ℕ → List ℕ → ℕ
word_from i js = union (map (λ j. 2 ^ (j - i)) (select (λ j. leb i j && ltb j (i + 64)) js))

-- "two words, low one first, whose bits name the steps that touch it (bit j of the pair for step j)"
unfoldable pub pair : Problem → Variable → List ℕ
pair P v = word_from 0 (touching P v) ∷ word_from 64 (touching P v) ∷ []

-- "for each variable (strings, then numbers)"
unfoldable pub index_of : Problem → List ℕ
index_of P = flat_map (pair P) (variables_of P)

-- ---- building it

-- "18 when the index buffer is not 2(s + t) words"
unfoldable pub require_index_length : {A : Type 0} → Problem → List ℕ → Reply A → Reply A
require_index_length P I next = require (eqb (length I) (2 * (P.strings + P.numbers))) 18 next

-- "building the index gives 1 to 8, then 18": the lent buffer afterwards
unfoldable pub index : Reading → List ℕ → Reply (List ℕ)
index r I = and_then r (λ a. require_index_length a.problem I (answered (index_of a.problem)))
