-- The queue of steps ends in the settled table: a step that does not wait strikes nothing, so where none waits no step does. Assumes nothing.
use mathlib.Core.Path.{◌≡◌, refl, sym, ap, subst, ◌∙◌}
use mathlib.Core.Logic.{◌≢◌}
use mathlib.Core.Bool.{false, not, false≢true}
use mathlib.Core.List.Memᴰ
use mathlib.Core.List.{List, [], ◌∷◌, map}
use Prim.Native.Nat.{ℕ, zero, suc, ◌+◌, ◌*◌, ◌≤◌, ◌<◌}
use native.Mathlib.Omega.{arith}
use lib.Dec.{eqb}
use lib.ListN.{length, get_or, length-map}
use borrow.Author.Tests.{ne_eqb}
use Rattle.model.specs.Lists.{any, upto}
use Rattle.model.specs.Words.{Words, size}
use Rattle.model.specs.Domains.{Variable}
use Rattle.model.specs.Constraints.{Problem, Constraint, always, variables, width}
use Rattle.model.specs.Solutions.{WellFormed}
use Rattle.model.specs.Support.{narrowed, struck}
use Rattle.model.specs.Rounds.{steps, settled}
use Rattle.model.specs.Operations.{step_at, step_count}
use Rattle.model.specs.StepIndex.{step_touches}
use Rattle.model.specs.Queue.{sharing, joining, waiting_after, Ran, running, queueing}
use Rattle.laws.specs.Inclusion.{In}
use Rattle.laws.specs.Lent.{Stable}
use Rattle.laws.specs.Line.{waits}
use Rattle.laws.proofs.ListLaws.{in_any, in_select, of-upto, in_upto, from-get_or, true_and}
use Rattle.laws.proofs.TableLaws.{below_antisym, below-words, struck-none}
use Rattle.laws.proofs.SupportLaws.{narrowed-length, narrowed-below}
use Rattle.laws.proofs.RoundLaws.{settled-below, settled-above, settled-stable}
use Rattle.laws.proofs.StepNumberLaws.{step_in, in_step}
use Rattle.laws.proofs.StepIndexLaws.{in_step_touches}
use Rattle.laws.proofs.QueueLaws.{upto-length, in_waits, waits-not, not_in, Steps, waiting-steps, next_cost, running_none, running-next, queueing-below, queueing-above}
use Rattle.shortcuts.specs.Waiting.{Apart, Resting}
use Rattle.shortcuts.proofs.LocalLaws.{apart-unchanged}
use Rattle.shortcuts.proofs.WaitLaws.{ranged-step, Wakes, resting-turn}

-- neither the first nor any behind it
waits-none : (j : ℕ) (q : List ℕ) (d : ℕ) → eqb d j ≡ false → waits q d ≡ false → waits (j ∷ q) d ≡ false
unfolding any
waits-none j q d e f = rw (e, f)

module _ (P : Problem) where
  -- the steps in the order of their numbers
  numbered : List Constraint
  numbered = map (step_at P) (upto (step_count P))

  numbered-length : length numbered ≡ step_count P
  unfolding numbered
  numbered-length = length-map (upto (step_count P)) (step_at P) ∙ upto-length (step_count P)

  numbered-at : (j : ℕ) → j < step_count P → get_or numbered j (always 0) ≡ step_at P j
  unfolding numbered upto
  numbered-at j h = from-get_or (step_at P) 0 (step_count P) j (always 0) h ∙ ap (step_at P) (omega arith)

  numbered_step : (c : Constraint) → In c numbered → In c (steps P)
  unfolding numbered
  numbered_step c m =
      let t = Memᴰ.of_map (step_at P) (upto (step_count P)) m in
      subst (λ (d : Constraint). In d (steps P)) t.2 (step_in P t.0 (of-upto (step_count P) t.1))

  -- ---- what waits after step j

  still-waits : (n j : ℕ) (q : List ℕ) (i : ℕ) → In i q → In i (waiting_after P n j q)
  unfolding waiting_after
  still-waits zero j q i m = m
  still-waits (suc n) j q i m = Memᴰ.append_left (joining P j q) m

  -- a step that shares a variable with it waits, where it struck anything
  shared_waits : (n j : ℕ) (q : List ℕ) (d : ℕ) → d < step_count P → d ≢ j → waits q d ≡ false → (v : Variable) → In v (variables (step_at P j))
      → In v (variables (step_at P d)) → In d (waiting_after P (suc n) j q)
  unfolding waiting_after joining sharing
  shared_waits n j q d h ne f v m k =
      Memᴰ.append_right q (in_select _ (in_upto (step_count P) d h)
      (true_and (true_and (ap not (ne_eqb d j ne)) (in_any (step_touches P j) k (in_step_touches P j v m))) (ap not f)))

  -- step j on U, with the others of q behind it: what does not wait afterwards did not before, and shares no variable that has changed
  module _ (j : ℕ) (l : j < step_count P) (q U : List ℕ) (w : Words U) where
    abbrev left : List ℕ
    left = narrowed P (step_at P j) U

    abbrev next : List ℕ
    next = waiting_after P (struck U left) j q

    rested : (d : ℕ) → d ≢ j → waits next d ≡ false → waits q d ≡ false
    rested d ne f = waits-not q d (λ m. not_in next d f (still-waits (struck U left) j q d m))

    not_shared : (n d : ℕ) → struck U left ≡ n → d < step_count P → d ≢ j → waits next d ≡ false → Apart P (step_at P d) U left
    not_shared zero d e h ne f = λ i t. ap (λ (W : List ℕ). get_or W i 0) (sym (struck-none U left (narrowed-below P (step_at P j) U) w e))
    not_shared (suc n) d e h ne f = apart-unchanged P (step_at P j) (step_at P d) U (λ v m k.
        let there : In d next = subst (λ (x : ℕ). In d (waiting_after P x j q)) (sym e) (shared_waits n j q d h ne (rested d ne f) v m k) in
        absurd (false≢true (sym f ∙ in_waits next d there)))

    queue_wakes : Wakes P numbered j (waits (j ∷ q)) (waits next) U
    queue_wakes = record {
      rested = λ d h ne f. waits-none j q d (ne_eqb d j ne) (rested d ne f);
      apart = λ d h ne f.
          let k : d < step_count P = subst (λ (x : ℕ). d < x) numbered-length h in
          subst (λ (c : Constraint). Apart P (get_or numbered d (always 0)) U (narrowed P c U)) (sym (numbered-at j l))
          (subst (λ (c : Constraint). Apart P c U left) (sym (numbered-at d k)) (not_shared (struck U left) d refl k ne f));
    }

    queue_turn : WellFormed P → length U ≡ width P → Resting P numbered (waits (j ∷ q)) U → Resting P numbered (waits next) left
    queue_turn wf ln r =
        subst (λ (c : Constraint). Resting P numbered (waits next) (narrowed P c U)) (numbered-at j l)
        (resting-turn P numbered (λ c m. ranged-step P wf c (numbered_step c m)) U ln j (subst (λ (x : ℕ). j < x) (sym numbered-length) l) r queue_wakes)

  -- ---- where none waits

  none-waits : (U : List ℕ) → Resting P numbered (waits []) U → Stable P U
  unfolding any
  none-waits U r c m =
      let t = in_step P c m in
      let h : t.0 < length numbered = subst (λ (x : ℕ). t.0 < x) (sym numbered-length) t.1 in
      subst (λ (d : Constraint). narrowed P d U ≡ U) (numbered-at t.0 t.1 ∙ t.2) (r.rests t.0 h refl)

  ends-none : (T : List ℕ) → Resting P numbered (waits []) T → Stable P (running P [] T).table
  ends-none T r = subst (λ (W : List ℕ). Stable P W) (sym (ap (λ (z : Ran). z.table) (running_none P T))) (none-waits T r)

  ends-stable : WellFormed P → (f : ℕ) (q T : List ℕ) → length q + step_count P * size T ≤ f → Words T → length T ≡ width P → Steps P q
      → Resting P numbered (waits q) T → Stable P (running P q T).table
  ends-stable wf zero [] T c w ln h r = ends-none T r
  ends-stable wf (suc f) [] T c w ln h r = ends-none T r
  ends-stable wf zero (j ∷ q) T c w ln h r = absurd (omega arith)
  ends-stable wf (suc f) (j ∷ q) T c w ln h r =
      let l = h j (Memᴰ.head refl) in
      let k = next_cost P j q T in
      subst (λ (W : List ℕ). Stable P W) (sym (ap (λ (z : Ran). z.table) (running-next P j q T)))
      (ends-stable wf f (next j l q T w) (left j l q T w) (omega arith) (below-words (narrowed-below P (step_at P j) T) w) (narrowed-length P (step_at P j) T ∙ ln)
      (waiting-steps P (struck T (left j l q T w)) j q (λ i m. h i (Memᴰ.tail m))) (queue_turn j l q T w wf ln r))

  -- "It must end in the table that the rounds end in"
  pub queueing-settled : WellFormed P → (T : List ℕ) → Words T → length T ≡ width P → (queueing P T).table ≡ settled P T
  unfolding queueing
  queueing-settled wf T w ln =
      let all : List ℕ = upto (step_count P) in
      let start : Resting P numbered (waits all) T = record { rests = λ j h f. absurd (false≢true (sym f ∙ in_waits all j (in_upto (step_count P) j (subst (λ (x : ℕ). j < x) numbered-length h)))) } in
      let stable = ends-stable wf (length all + step_count P * size T) all T (omega arith) w ln (λ j m. of-upto (step_count P) m) start in
      below_antisym (settled-above P (queueing P T).table T stable (queueing-below P T)) (queueing-above P (settled P T) T (settled-stable P T w) (settled-below P T))
