-- Laws of lists of Step and Settle calls, the second settle among them: each call, refused or not, stays between the table it is given and any stable table below it. Assumes nothing.
use mathlib.Core.Path.{◌≡◌, refl, sym, ap, subst, ◌∙◌}
use mathlib.Core.Bool.{Bool, true, false, cond, ◌&&◌, false≢true}
use mathlib.Core.List.{List, [], ◌∷◌}
use Prim.Native.Nat.{ℕ, ◌+◌, ◌*◌, ◌<◌}
use lib.Dec.{eqb, ltb}
use lib.ListN.{length}
use borrow.Author.Tests.{ltb-true, lt-ltb, eqb-true, eq-eqb}
use Rattle.model.specs.Lists.{from, upto, same}
use Rattle.model.specs.Words.{none_from, word, Words}
use Rattle.model.specs.Constraints.{Problem, Constraint, width}
use Rattle.model.specs.Support.{narrowed, struck}
use Rattle.model.specs.Rounds.{every_value, settling, settled}
use Rattle.model.specs.Replies.{Reply, refused, answered, require, and_then, leaves}
use Rattle.model.specs.Reading.{Accepted, symbols_below}
use Rattle.model.specs.Operations.{require_length, on_table, step_at, step_count, Stepped, step, Settlement, settle}
use Rattle.model.specs.StepIndex.{index_of, require_index_length}
use Rattle.model.specs.Queue.{queueing, Queued, settle_by_index}
use Rattle.model.specs.Claim.{Call, step_call, settle_call, settle_by_index_call, call, calls, NoStepStrikes}
use Rattle.laws.specs.Inclusion.{Below}
use Rattle.laws.specs.Lent.{lendable, unlendable, Stable}
use Rattle.laws.proofs.ListLaws.{of-all, in_all, and_true, true_and}
use Rattle.laws.proofs.WordLaws.{none_from-within}
use Rattle.laws.proofs.TableLaws.{below_refl, below_trans, below_antisym, below-of-eq}
use Rattle.laws.proofs.SupportLaws.{narrowed-below, narrowed-mono}
use Rattle.laws.proofs.RoundLaws.{settled-below, settled-above, settled-stable}
use Rattle.laws.proofs.StepNumberLaws.{step_in, in_step}
use Rattle.laws.proofs.QueueLaws.{queueing-below, queueing-above}

-- ---- a lent table: neither refusal 9 nor refusal 10

pub lendable-length : (P : Problem) (T : List ℕ) → lendable P T ≡ true → length T ≡ width P
unfolding lendable
lendable-length P T e = eqb-true (length T) (width P) (and_true (eqb (length T) (width P)) _ e).0

pub symbols_below-below : (k s : ℕ) (T U : List ℕ) → Below T U → symbols_below k s U ≡ true → symbols_below k s T ≡ true
unfolding symbols_below
symbols_below-below k s T U p e = in_all _ (upto s) (λ x m. in_all _ (from 1 63) (λ i n.
    none_from-within k (word T (64 * x + i)) (word U (64 * x + i)) (p.within (64 * x + i)) (of-all (λ i. none_from k (word U (64 * x + i))) (of-all _ e m) n)))

pub lendable-below : (P : Problem) (T U : List ℕ) → Below T U → lendable P U ≡ true → lendable P T ≡ true
unfolding lendable
lendable-below P T U p e =
    let t = and_true (eqb (length U) (width P)) (symbols_below P.symbols P.strings U) e in
    true_and (eq-eqb (length T) (width P) (p.same_length ∙ eqb-true (length U) (width P) t.0)) (symbols_below-below P.symbols P.strings T U p t.1)

-- an operation on a lendable table goes on; on any other it refuses, whatever the operation
pub on-lendable : {A : Type 0} (a : Accepted) (T : List ℕ) (f : Problem → Reply A) → lendable a.problem T ≡ true → on_table (answered a) T f ≡ f a.problem
unfolding lendable on_table require_length and_then require
on-lendable a T f e = let t = and_true (eqb (length T) (width a.problem)) _ e in rw (t.0, t.1)

pub on-other : {A : Type 0} (a : Accepted) (T : List ℕ) (f : Problem → Reply A) → lendable a.problem T ≡ false → on_table (answered a) T f ≡ refused (unlendable a.problem T)
unfolding lendable unlendable on_table require_length and_then require
on-other {A} a T f = go (eqb (length T) (width a.problem)) (symbols_below a.problem.symbols a.problem.strings T)
  where
    go : (p q : Bool) → (p && q) ≡ false → require p 9 (require q 10 (f a.problem)) ≡ refused (cond p 10 9)
    go true true e = absurd (false≢true (sym e))
    go true false e = refl
    go false true e = refl
    go false false e = refl

-- ---- one call

-- U is what a call leaves of T: the table as it was, a narrowed one, the settled one, or the one that the queue leaves
pub data After (P : Problem) (T : List ℕ) : List ℕ → Type 0 where
  untouched : {U : List ℕ} → U ≡ T → After P T U
  by-step : {U : List ℕ} (j : ℕ) → j < step_count P → U ≡ narrowed P (step_at P j) T → After P T U
  by-settle : {U : List ℕ} → U ≡ settled P T → After P T U
  by_queue : {U : List ℕ} → U ≡ (queueing P T).table → After P T U

module _ (a : Accepted) where
  pub step-lendable : (T : List ℕ) (j : ℕ) → lendable a.problem T ≡ true → j < step_count a.problem
      → step (answered a) j T ≡ answered (record { struck = struck T (narrowed a.problem (step_at a.problem j) T); table = narrowed a.problem (step_at a.problem j) T })
  unfolding step require
  step-lendable T j e h = on-lendable a T _ e ∙ rw (lt-ltb j (step_count a.problem) h)

  pub settle-lendable : (T : List ℕ) → lendable a.problem T ≡ true
      → settle (answered a) T ≡ answered (record { rounds = (settling a.problem T).rounds; every_value = every_value a.problem (settled a.problem T); table = settled a.problem T })
  unfolding settle
  settle-lendable T e = on-lendable a T _ e

  pub step_too_far : (T : List ℕ) (j : ℕ) → lendable a.problem T ≡ true → ltb j (step_count a.problem) ≡ false → step (answered a) j T ≡ refused 11
  unfolding step require
  step_too_far T j e f = on-lendable a T _ e ∙ rw f

  pub step_other : (T : List ℕ) (j : ℕ) → lendable a.problem T ≡ false → step (answered a) j T ≡ refused (unlendable a.problem T)
  unfolding step
  step_other T j e = on-other a T _ e

  pub settle_other : (T : List ℕ) → lendable a.problem T ≡ false → settle (answered a) T ≡ refused (unlendable a.problem T)
  unfolding settle
  settle_other T e = on-other a T _ e

  -- the second settle, and each of its refusals
  pub settle-by-index-other : (I T : List ℕ) → lendable a.problem T ≡ false → settle_by_index (answered a) I T ≡ refused (unlendable a.problem T)
  unfolding settle_by_index
  settle-by-index-other I T e = on-other a T _ e

  -- what it answers where neither 18 nor 19 refuses
  abbrev pub queued : List ℕ → Queued
  queued T =
      record { steps = (queueing a.problem T).steps; every_value = every_value a.problem (queueing a.problem T).table; table = (queueing a.problem T).table }

  pub settle-by-index-lendable : (I T : List ℕ) → lendable a.problem T ≡ true
      → settle_by_index (answered a) I T
      ≡ require (eqb (length I) (2 * (a.problem.strings + a.problem.numbers))) 18 (require (same I (index_of a.problem)) 19 (answered (queued T)))
  unfolding settle_by_index require_index_length
  settle-by-index-lendable I T e = on-lendable a T _ e

  -- what a call leaves of T
  pub call-after : (c : Call) (T : List ℕ) → After a.problem T (call (answered a) c T)
  unfolding call leaves require
  call-after (step_call j) T = go (lendable a.problem T) (ltb j (step_count a.problem)) refl refl
    where
      table_in : Reply Stepped → List ℕ
      table_in r = leaves (λ (z : Stepped). z.table) r T

      go : (p q : Bool) → lendable a.problem T ≡ p → ltb j (step_count a.problem) ≡ q → After a.problem T (table_in (step (answered a) j T))
      go true true e f = let h = ltb-true j (step_count a.problem) f in by-step j h (ap table_in (step-lendable T j e h))
      go true false e f = untouched (ap table_in (step_too_far T j e f))
      go false true e f = untouched (ap table_in (step_other T j e))
      go false false e f = untouched (ap table_in (step_other T j e))
  call-after settle_call T = go (lendable a.problem T) refl
    where
      table_in : Reply Settlement → List ℕ
      table_in r = leaves (λ (z : Settlement). z.table) r T

      go : (p : Bool) → lendable a.problem T ≡ p → After a.problem T (table_in (settle (answered a) T))
      go true e = by-settle (ap table_in (settle-lendable T e))
      go false e = untouched (ap table_in (settle_other T e))
  call-after (settle_by_index_call I) T = go (lendable a.problem T) refl
    where
      table_in : Reply Queued → List ℕ
      table_in r = leaves (λ (z : Queued). z.table) r T

      within : (p q : Bool) → After a.problem T (table_in (require p 18 (require q 19 (answered (queued T)))))
      within true true = by_queue refl
      within true false = untouched refl
      within false q = untouched refl

      go : (p : Bool) → lendable a.problem T ≡ p → After a.problem T (table_in (settle_by_index (answered a) I T))
      go true e = subst (λ (r : Reply Queued). After a.problem T (table_in r)) (sym (settle-by-index-lendable I T e))
          (within (eqb (length I) (2 * (a.problem.strings + a.problem.numbers))) (same I (index_of a.problem)))
      go false e = untouched (ap table_in (settle-by-index-other I T e))

  -- ---- a list of calls stays between the start and every stable table below it

  pub call_below : (c : Call) (T : List ℕ) → Below (call (answered a) c T) T
  call_below c T = go (call-after c T)
    where
      go : {U : List ℕ} → After a.problem T U → Below U T
      go (untouched e) = below-of-eq e
      go (by-step j h e) = below_trans (below-of-eq e) (narrowed-below a.problem (step_at a.problem j) T)
      go (by-settle e) = below_trans (below-of-eq e) (settled-below a.problem T)
      go (by_queue e) = below_trans (below-of-eq e) (queueing-below a.problem T)

  pub call-above : (c : Call) (W T : List ℕ) → Stable a.problem W → Below W T → Below W (call (answered a) c T)
  call-above c W T s p = go (call-after c T)
    where
      go : {U : List ℕ} → After a.problem T U → Below W U
      go (untouched e) = below_trans p (below-of-eq (sym e))
      go (by-step j h e) =
          let d : Constraint = step_at a.problem j in
          below_trans (below-of-eq (sym (s d (step_in a.problem j h)))) (below_trans (narrowed-mono a.problem d p) (below-of-eq (sym e)))
      go (by-settle e) = below_trans (settled-above a.problem W T s p) (below-of-eq (sym e))
      go (by_queue e) = below_trans (queueing-above a.problem W T s p) (below-of-eq (sym e))

  pub calls-below : (cs : List Call) (T : List ℕ) → Below (calls (answered a) cs T) T
  unfolding calls
  calls-below [] T = below_refl T
  calls-below (c ∷ cs) T = below_trans (calls-below cs (call (answered a) c T)) (call_below c T)

  pub calls-above : (cs : List Call) (W T : List ℕ) → Stable a.problem W → Below W T → Below W (calls (answered a) cs T)
  unfolding calls
  calls-above [] W T s p = p
  calls-above (c ∷ cs) W T s p = calls-above cs W (call (answered a) c T) s (call-above c W T s p)

  -- no step strikes, as the calls say it
  pub no-step-stable : (T : List ℕ) → lendable a.problem T ≡ true → NoStepStrikes a T → Stable a.problem T
  unfolding call leaves
  no-step-stable T l h c m =
      let t = in_step a.problem c m in
      let e = ap (λ (r : Reply Stepped). leaves (λ (z : Stepped). z.table) r T) (step-lendable T t.0 l t.1) in
      ap (λ (d : Constraint). narrowed a.problem d T) (sym t.2) ∙ sym e ∙ h t.0 t.1

  -- where no step strikes after the list, one Settle leaves the same table
  pub calls-settle : (cs : List Call) (T : List ℕ) → Words T → lendable a.problem T ≡ true → NoStepStrikes a (calls (answered a) cs T) → calls (answered a) cs T ≡ settled a.problem T
  calls-settle cs T bd l n =
      let U : List ℕ = calls (answered a) cs T in
      let p : Below U T = calls-below cs T in
      below_antisym (settled-above a.problem U T (no-step-stable U (lendable-below a.problem U T p l) n) p)
      (calls-above cs (settled a.problem T) T (settled-stable a.problem T bd) (settled-below a.problem T))

  -- a table that is refused stays as it is
  pub calls-other : (cs : List Call) (T : List ℕ) → lendable a.problem T ≡ false → calls (answered a) cs T ≡ T
  unfolding calls call leaves
  calls-other [] T e = refl
  calls-other (step_call j ∷ cs) T e = ap (calls (answered a) cs) (ap (λ (r : Reply Stepped). leaves (λ (z : Stepped). z.table) r T) (step_other T j e)) ∙ calls-other cs T e
  calls-other (settle_call ∷ cs) T e = ap (calls (answered a) cs) (ap (λ (r : Reply Settlement). leaves (λ (z : Settlement). z.table) r T) (settle_other T e)) ∙ calls-other cs T e
  calls-other (settle_by_index_call I ∷ cs) T e =
      ap (calls (answered a) cs) (ap (λ (r : Reply Queued). leaves (λ (z : Queued). z.table) r T) (settle-by-index-other I T e)) ∙ calls-other cs T e

-- a file that is refused leaves every table as it is
pub calls-refused : (n : ℕ) (cs : List Call) (T : List ℕ) → calls (refused n) cs T ≡ T
unfolding calls call step settle settle_by_index on_table and_then leaves
calls-refused n [] T = refl
calls-refused n (step_call j ∷ cs) T = calls-refused n cs T
calls-refused n (settle_call ∷ cs) T = calls-refused n cs T
calls-refused n (settle_by_index_call I ∷ cs) T = calls-refused n cs T
