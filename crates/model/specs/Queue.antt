-- Settling only what changed (document 02, ticket 3): steps that wait in a queue, and the second settle, which is lent an index. Assumes nothing.
use Rattle.std.specs.Prelude.{Bool, not, ◌&&◌, List, [], ◌∷◌, ◌++◌, ℕ, zero, suc, ◌+◌, ◌*◌, eqb, length}
use Rattle.model.specs.Lists.{select, any, upto, same}
use Rattle.model.specs.Words.{size}
use Rattle.model.specs.Constraints.{Problem, variables}
use Rattle.model.specs.Support.{narrowed, struck}
use Rattle.model.specs.Rounds.{every_value}
use Rattle.model.specs.Replies.{Reply, answered, require}
use Rattle.model.specs.Reading.{Reading}
use Rattle.model.specs.Operations.{on_table, step_at, step_count}
use Rattle.model.specs.StepIndex.{step_touches, index_of, require_index_length}

-- two steps share a variable
unfoldable pub sharing : Problem → ℕ → ℕ → Bool
sharing P i j = any (step_touches P j) (variables (step_at P i))

-- "every other step sharing a variable with it and not waiting …, lowest number first": the steps that join after step j, where those of q wait
unfoldable pub joining : Problem → ℕ → List ℕ → List ℕ
joining P j q = select (λ i. not (eqb i j) && sharing P i j && not (any (eqb i) q)) (upto (step_count P))

-- "if it struck anything, every other step … joins the back": what waits after step j, which struck n bits
unfoldable pub waiting_after : Problem → ℕ → ℕ → List ℕ → List ℕ
waiting_after P zero j q = q
waiting_after P (suc n) j q = q ++ joining P j q

-- "the steps run", and the table that they leave
pub record Ran : Type 0 where
  pub steps : ℕ
  pub table : List ℕ

-- "the front one runs": at most f steps, where those of q wait; none is run where none waits
unfoldable pub running_in : ℕ → Problem → List ℕ → List ℕ → Ran
running_in zero P q T = record { steps = 0; table = T }
running_in (suc f) P [] T = record { steps = 0; table = T }
running_in (suc f) P (j ∷ q) T =
    let U = narrowed P (step_at P j) T in
    let r = running_in f P (waiting_after P (struck T U) j q) U in
    record { steps = suc r.steps; table = r.table }

-- A step that lets others join strikes a bit, and at most all others join, so no more steps are run than this.
-- The equations a reader expects are `Running-none` and `running-next` (crates/laws, QueueLaws): running P [] T runs none and leaves T, and running P (j ∷ q) T
-- runs one more than running P (waiting_after P (struck T U) j q) U, whose table it leaves, for U = narrowed P (step_at P j) T.
unfoldable pub running : Problem → List ℕ → List ℕ → Ran
running P q T = running_in (length q + step_count P * size T) P q T

-- "All steps wait in order of number"
unfoldable pub queueing : Problem → List ℕ → Ran
queueing P T = running P (upto (step_count P)) T

-- ---- the second settle

-- the steps run, whether every variable has a value, and the lent table afterwards
pub record Queued : Type 0 where
  pub steps : ℕ
  pub every_value : Bool
  pub table : List ℕ

-- "It answers the steps run, as this rule counts them, and whether every variable keeps a value. … 18 when the index buffer is not 2(s + t) words, 19 when its
-- words aren't this file's index, both after 10"
unfoldable pub settle_by_index : Reading → List ℕ → List ℕ → Reply Queued
settle_by_index r I T = on_table r T (λ P.
    let S = queueing P T in
    require_index_length P I
    (require (same I (index_of P)) 19
    (answered (record { steps = S.steps; every_value = every_value P S.table; table = S.table }))))
