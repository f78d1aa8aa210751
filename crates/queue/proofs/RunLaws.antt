-- All turns of the queue: the line that is begun with, what a turn keeps, and what is left where none waits. Assumes nothing.
use mathlib.Core.Path.{◌≡◌, refl, sym, ap, subst, ◌∙◌}
use mathlib.Core.Bool.{Bool, true, false, false≢true}
use mathlib.Core.List.{List, [], ◌∷◌, ◌++◌, append-nil}
use Prim.Native.Nat.{ℕ, zero, suc, ◌+◌, ◌*◌, ◌%◌, ◌≤◌, ◌<◌}
use native.Mathlib.Nat.{mul-le-mul}
use native.Mathlib.Omega.{arith}
use lib.Dec.{ltb}
use lib.ListN.{length, get_or}
use borrow.Author.Tests.{ltb-true, lt-ltb}
use Rattle.model.specs.Lists.{upto}
use Rattle.model.specs.Words.{bit}
use Rattle.model.specs.Constraints.{Problem, width}
use Rattle.model.specs.Support.{narrowed, struck}
use Rattle.model.specs.Operations.{step_at, step_count}
use Rattle.model.specs.Queue.{waiting_after, Ran, running, queueing}
use Rattle.laws.specs.Inclusion.{Below}
use Rattle.laws.specs.Lent.{lendable}
use Rattle.laws.specs.Line.{waits, Line}
use Rattle.laws.proofs.ListLaws.{in_upto, of-upto}
use Rattle.laws.proofs.WordLaws.{bool_ext, zero_bit}
use Rattle.laws.proofs.TableLaws.{struck-size, size-most}
use Rattle.laws.proofs.SupportLaws.{narrowed-below}
use Rattle.laws.proofs.CallLaws.{lendable-below, lendable-length}
use Rattle.laws.proofs.QueueLaws.{upto-length, in_waits, waits_in, line-all, line-next, line-length, running_none, running-next, queueing-below, queueing-steps}
use Rattle.striking.specs.Strikes.{Strikes, TrimmedIn}
use Rattle.queue.specs.declared.Steps.{Steps}
use Rattle.queue.specs.declared.Queue.{Queue}
use Rattle.queue.specs.Ring.{held, Marks, numbers, Joins, Ring, Full, Advanced, Turned}
use Rattle.queue.proofs.RingLaws.{filled-all}
use Rattle.queue.proofs.TurnLaws.{front, no_front, front-is, front-step}

-- ---- all steps wait

module _ (P : Problem) (n : ℕ) (e : step_count P ≡ n) (few : n ≤ 80) (q : Queue) (f : Full n q) where
  all_wait : (b : ℕ) → ltb b n ≡ waits (upto n) b
  all_wait b = bool_ext (ltb b n) (waits (upto n) b) (λ h. in_waits (upto n) b (in_upto n b (ltb-true b n h))) (λ h. lt-ltb b n (of-upto n (waits_in (upto n) b h)))

  ring-all : Ring P q (upto n)
  ring-all = record {
    size = f.filled.size;
    line = subst (λ (m : ℕ). Line P (upto m)) e (line-all P);
    holds = ap (λ (h : ℕ). held q.ring h (length (upto n))) f.head ∙ ap (held q.ring 0) (upto-length n) ∙ filled-all q.ring n (omega arith) f.filled;
    ends = omega (arith, f.head, f.tail, upto-length n);
    marks = record {
      first = λ b l. let e : 64 * 0 + b ≡ b = omega arith in f.marks.low b l ∙ all_wait (64 * 0 + b) ∙ ap (waits (upto n)) e;
      second = λ b l. f.marks.high b l ∙ all_wait (64 + b);
    };
  }

  none-trimmed : (T : List ℕ) → TrimmedIn P q.trimmed T
  none-trimmed T x h b = absurd (false≢true (sym (zero_bit x) ∙ ap (λ (w : ℕ). bit w x) (sym f.trimmed) ∙ b))

-- ---- what holds between turns

-- some steps were run of those that the queue runs on T, and left U; those that wait are run on it
pub record Runs (P : Problem) (T : List ℕ) (q : Queue) (U : List ℕ) : Type 0 where
  pub line : List ℕ
  pub ring : Ring P q line
  pub lent : lendable P U ≡ true
  pub trimmed : TrimmedIn P q.trimmed U
  pub steps : q.head + (running P line U).steps ≡ (queueing P T).steps
  pub table : (running P line U).table ≡ (queueing P T).table

-- how many steps are run, in a table that a file may have
pub steps-most : (P : Problem) (T : List ℕ) → step_count P ≤ 80 → width P ≤ 1040 → lendable P T ≡ true → (queueing P T).steps ≤ 5324880
steps-most P T few small l =
    let s = struck-size T (queueing P T).table (queueing-below P T) in
    let m : struck T (queueing P T).table ≤ 66560 = omega (arith, size-most T, lendable-length P T l) in
    let n : suc (struck T (queueing P T).table) ≤ 66561 = omega arith in
    let k : step_count P * suc (struck T (queueing P T).table) ≤ 80 * 66561 = mul-le-mul few n in
    omega (arith, queueing-steps P T)

module _ (P : Problem) (T : List ℕ) where
  pub runs_first : (n : ℕ) → step_count P ≡ n → n ≤ 80 → (q : Queue) → Full n q → lendable P T ≡ true → Runs P T q T
  unfolding queueing
  runs_first n e few q f l = record {
    line = upto n;
    ring = ring-all P n e few q f;
    lent = l;
    trimmed = none-trimmed P n e few q f T;
    steps = omega (arith, f.head, ap (λ (m : ℕ). (running P (upto m) T).steps) e);
    table = ap (λ (m : ℕ). (running P (upto m) T).table) (sym e);
  }

  module _ (q : Queue) (U : List ℕ) (r : Runs P T q U) where
    -- a turn is one of the steps that are run
    pub runs_more : q.head < q.tail → q.head < (queueing P T).steps
    runs_more h =
        let f = front r.line r.ring h in
        go r.line r.ring r.steps
      where
        go : (js : List ℕ) → Ring P q js → q.head + (running P js U).steps ≡ (queueing P T).steps → q.head < (queueing P T).steps
        go [] g s = absurd (omega (arith, g.ends))
        go (j ∷ js) g s = omega (arith, s, ap (λ (z : Ran). z.steps) (running-next P j js U))

    pub runs_next : q.head < q.tail → (X : List ℕ) (p : Queue) → Turned P U X q p → Runs P T p X
    runs_next h X p t = go r.line r.ring r.steps r.table
      where
        go : (js : List ℕ) → Ring P q js → q.head + (running P js U).steps ≡ (queueing P T).steps → (running P js U).table ≡ (queueing P T).table → Runs P T p X
        go [] g s w = absurd (omega (arith, g.ends))
        go (j ∷ js) g s w =
            let e : X ≡ narrowed P (step_at P j) U = t.table j js g in
            let n = running-next P j js U ∙ ap (λ (W : List ℕ). record {
              steps = suc (running P (waiting_after P (struck U W) j js) W).steps;
              table = (running P (waiting_after P (struck U W) j js) W).table;
            }) (sym e) in
            record {
              line = waiting_after P (struck U X) j js;
              ring = t.line j js g;
              lent = lendable-below P X U (subst (λ (W : List ℕ). Below W U) (sym e) (narrowed-below P (step_at P j) U)) r.lent;
              trimmed = t.trimmed;
              steps = omega (arith, t.counts, s, ap (λ (z : Ran). z.steps) n);
              table = sym (ap (λ (z : Ran). z.table) n) ∙ w;
            }

    pub runs_last : q.tail ≤ q.head → (q.head ≡ (queueing P T).steps) × (U ≡ (queueing P T).table)
    runs_last h =
        let e : r.line ≡ [] = no_front r.line r.ring h in
        let n = ap (λ (js : List ℕ). running P js U) e ∙ running_none P U in
        (omega (arith, r.steps, ap (λ (z : Ran). z.steps) n), sym (ap (λ (z : Ran). z.table) n) ∙ r.table)

-- ---- a turn

-- what waits after step j, by what joins
module _ (P : Problem) (j : ℕ) (js : List ℕ) (u w : Steps) (m : Marks u (j ∷ js)) where
  pub joined_line : (changed : Bool) (n : ℕ) → (changed ≡ false → n ≡ 0) → (changed ≡ true → 0 < n) → Joins P u j changed w → js ++ numbers w ≡ waiting_after P n j js
  unfolding waiting_after
  joined_line false zero z s g = ap (λ (l : List ℕ). js ++ l) (g.none refl) ∙ append-nil js
  joined_line false (suc n) z s g = absurd (omega (arith, z refl))
  joined_line true zero z s g = absurd (omega (arith, s refl))
  joined_line true (suc n) z s g = ap (λ (l : List ℕ). js ++ l) (g.some refl js m)

pub turned : (P : Problem) → step_count P ≤ 80 → {T U : List ℕ} {q r : Queue} {changed : Bool} {w : Steps} {t j : ℕ} → get_or q.ring (q.head % 128) 0 ≡ j
    → Strikes P (step_at P j) T U changed → Joins P q.waiting j changed w → Advanced q j w t r → TrimmedIn P t U → Turned P T U q r
turned P few {T} {U} {q} {r} {changed} {w} {t} {j} is s g a m = record {
  counts = a.counts;
  table = λ i js k. s.table ∙ ap (λ (d : ℕ). narrowed P (step_at P d) T) (sym is ∙ front-is k);
  line = λ i js k. at i js (sym is ∙ front-is k) k;
  trimmed = subst (λ (x : ℕ). TrimmedIn P x U) (sym a.same) m;
}
  where
    at : (i : ℕ) (js : List ℕ) → j ≡ i → Ring P q (i ∷ js) → Ring P r (waiting_after P (struck T U) i js)
    at i js e k =
        let here : Ring P q (j ∷ js) = subst (λ (d : ℕ). Ring P q (d ∷ js)) (sym e) k in
        let l : js ++ numbers w ≡ waiting_after P (struck T U) j js = joined_line P j js q.waiting w here.marks changed (struck T U) s.none s.some g in
        let next : Line P (js ++ numbers w) = subst (Line P) (sym l) (line-next P (struck T U) j js here.line) in
        subst (λ (d : ℕ). Ring P r (waiting_after P (struck T U) d js)) e (subst (Ring P r) l (a.line P few js here next))

-- what a turn asks of the front step, and of the ring
module _ {P : Problem} {q : Queue} (g : (js : List ℕ) × Ring P q js) (h : q.head < q.tail) (few : step_count P ≤ 80) where
  pub front_less : get_or q.ring (q.head % 128) 0 < step_count P
  front_less = let f = front g.0 g.1 h in subst (λ (d : ℕ). d < step_count P) (sym (front-is f.2)) (front-step f.2)

  pub tail-near : q.tail ≤ q.head + 80
  tail-near = omega (arith, g.1.ends, line-length P g.0 g.1.line)
