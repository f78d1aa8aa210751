-- Laws of the queue of steps: what waits in it, its equations without a bound on the steps, where its tables lie, and how many steps are run. Assumes nothing.
use mathlib.Core.Path.{◌≡◌, refl, sym, ap, subst, ◌∙◌}
use mathlib.Core.Bool.{Bool, true, false, cond, not, ◌&&◌, ◌||◌, false≢true}
use mathlib.Core.List.Memᴰ
use mathlib.Core.List.{List, [], ◌∷◌, ◌++◌}
use mathlib.Core.Logic.{◌≢◌, ⊎_elim}
use Prim.Native.Nat.{ℕ, zero, suc, ◌+◌, ◌*◌, ◌≤◌, ◌<◌}
use native.Mathlib.Nat.{mul-suc, mul-le-mul_left, mul-add}
use native.Mathlib.Omega.{arith}
use lib.Dec.{eqb}
use lib.ListN.{length, length-append}
use borrow.Author.Tests.{eqb-true, eqb-false, eq-eqb}
use Rattle.model.specs.Lists.{any, select, from, upto}
use Rattle.model.specs.Words.{size}
use Rattle.model.specs.Constraints.{Problem, Constraint}
use Rattle.model.specs.Support.{narrowed, struck}
use Rattle.model.specs.Operations.{step_at, step_count}
use Rattle.model.specs.Queue.{sharing, joining, waiting_after, Ran, running_in, running, queueing}
use Rattle.laws.specs.Inclusion.{In, Distinct, Below}
use Rattle.laws.specs.Lent.{Stable}
use Rattle.laws.specs.Line.{waits, Line}
use Rattle.laws.proofs.ListLaws.{of-select, in_select, of-any, in_any, of-from, of-upto, in_upto, from-length, in_length, and_true, not_true}
use Rattle.laws.proofs.TableLaws.{below_refl, below_trans, below-of-eq, select-length, struck-size}
use Rattle.laws.proofs.SupportLaws.{narrowed-below, narrowed-mono}
use Rattle.laws.proofs.StepNumberLaws.{step_in}

-- the numbers below n
pub upto-length : (n : ℕ) → length (upto n) ≡ n
unfolding upto
upto-length n = from-length 0 n

-- ---- what waits, and what does not

pub in_waits : (q : List ℕ) (d : ℕ) → In d q → waits q d ≡ true
in_waits q d m = in_any (eqb d) m (eq-eqb d d refl)

pub waits_in : (q : List ℕ) (d : ℕ) → waits q d ≡ true → In d q
waits_in q d e = let u = of-any (eqb d) q e in subst (λ (i : ℕ). In i q) (sym (eqb-true d u.0 u.2)) u.1

pub waits-not : (q : List ℕ) (d : ℕ) → (In d q → ⊥) → waits q d ≡ false
waits-not q d h = not-waits (waits q d) refl
  where
    not-waits : (t : Bool) → waits q d ≡ t → t ≡ false
    not-waits true e = absurd (h (waits_in q d e))
    not-waits false e = refl

pub not_in : (q : List ℕ) (d : ℕ) → waits q d ≡ false → In d q → ⊥
not_in q d f m = false≢true (sym f ∙ in_waits q d m)

-- ---- numbers that stand in a list once

distinct_from : (p : ℕ → Bool) (i n : ℕ) → Distinct (select p (from i n))
unfolding select from
distinct_from p i zero = tt
distinct_from p i (suc n) = go (p i) (distinct_from p (suc i) n)
  where
    go : (t : Bool) → Distinct (select p (from (suc i) n)) → Distinct (cond t (i ∷ select p (from (suc i) n)) (select p (from (suc i) n)))
    go true d = ((λ y m e. let b = (of-from (suc i) n (of-select p (from (suc i) n) m).0).0 in absurd (omega arith)), d)
    go false d = d

distinct_append : (q r : List ℕ) → Distinct q → Distinct r → ((i : ℕ) → In i r → In i q → ⊥) → Distinct (q ++ r)
distinct_append [] r d e h = e
distinct_append (j ∷ q) r d e h = (
  (λ y m. ⊎_elim (λ l. d.0 y l) (λ k q. h y k (Memᴰ.head q)) (Memᴰ.append_cases q m)),
  distinct_append q r d.1 e (λ i m k. h i m (Memᴰ.tail k)),
)

distinct-upto : (n : ℕ) → Distinct (upto n)
unfolding upto select
distinct-upto n = subst Distinct (select_every (from 0 n)) (distinct_from (λ i. true) 0 n)
  where
    select_every : (xs : List ℕ) → select (λ i. true) xs ≡ xs
    select_every [] = refl
    select_every (x ∷ xs) = ap (λ (ys : List ℕ). x ∷ ys) (select_every xs)

-- of two tests that no element passes both, each element is counted once
select-either : (p q : ℕ → Bool) (xs : List ℕ) → ((x : ℕ) → In x xs → p x ≡ true → q x ≡ false)
    → length (select (λ x. p x || q x) xs) ≡ length (select p xs) + length (select q xs)
unfolding select
select-either p q [] h = refl
select-either p q (x ∷ xs) h = go (p x) (q x) refl refl (select-either p q xs (λ y m. h y (Memᴰ.tail m)))
  where
    go : (a b : Bool) → p x ≡ a → q x ≡ b → length (select (λ x. p x || q x) xs) ≡ length (select p xs) + length (select q xs)
        → length (cond (a || b) (x ∷ select (λ x. p x || q x) xs) (select (λ x. p x || q x) xs))
        ≡ length (cond a (x ∷ select p xs) (select p xs)) + length (cond b (x ∷ select q xs) (select q xs))
    go true true e f ih = absurd (false≢true (sym (h x (Memᴰ.head refl) e) ∙ f))
    go true false e f ih = omega arith
    go false true e f ih = omega arith
    go false false e f ih = ih

-- so there are no more of them than numbers below n, where each is
distinct-few : (n : ℕ) (q : List ℕ) → Distinct q → ((j : ℕ) → In j q → j < n) → length q ≤ length (select (waits q) (upto n))
unfolding any
distinct-few n [] d h = omega arith
distinct-few n (j ∷ q) d h =
    let ih = distinct-few n q d.1 (λ i m. h i (Memᴰ.tail m)) in
    let one : 0 < length (select (λ i. eqb i j) (upto n)) = in_length (in_select (λ i. eqb i j) (in_upto n j (h j (Memᴰ.head refl))) (eq-eqb j j refl)) in
    let sum : length (select (waits (j ∷ q)) (upto n)) ≡ length (select (λ i. eqb i j) (upto n)) + length (select (waits q) (upto n)) =
    select-either (λ i. eqb i j) (waits q) (upto n) (λ i m e. waits-not q i (λ k. d.0 i k (eqb-true i j e))) in
    omega arith

module _ (P : Problem) where
  -- ---- what waits are steps of the problem

  abbrev pub Steps : List ℕ → Type 0
  Steps q = (j : ℕ) → In j q → j < step_count P

  pub joining-steps : (j : ℕ) (q : List ℕ) → Steps (joining P j q)
  unfolding joining
  joining-steps j q i m = of-upto (step_count P) (of-select _ (upto (step_count P)) m).0

  pub waiting-steps : (n j : ℕ) (q : List ℕ) → Steps q → Steps (waiting_after P n j q)
  unfolding waiting_after
  waiting-steps zero j q h i m = h i m
  waiting-steps (suc n) j q h i m = ⊎_elim (λ l. h i l) (λ r. joining-steps j q i r) (Memᴰ.append_cases q m)

  joining-new : (j i : ℕ) (q : List ℕ) → In i (joining P j q) → (i ≢ j) × (waits q i ≡ false)
  unfolding joining
  joining-new j i q m =
      let t = and_true (not (eqb i j) && sharing P i j) (not (waits q i)) (of-select _ (upto (step_count P)) m).1 in
      (eqb-false i j (not_true (eqb i j) (and_true (not (eqb i j)) (sharing P i j) t.0).0), not_true (waits q i) t.1)

  -- ---- the line of all steps, the line after a step, and how long a line is

  pub line-all : Line P (upto (step_count P))
  line-all = record { steps = λ j m. of-upto (step_count P) m; distinct = distinct-upto (step_count P) }

  pub line-rest : {j : ℕ} {q : List ℕ} → Line P (j ∷ q) → Line P q
  line-rest l = record { steps = λ i m. l.steps i (Memᴰ.tail m); distinct = l.distinct.1 }

  line-joined : (j : ℕ) (q : List ℕ) → Line P q → Line P (q ++ joining P j q)
  unfolding joining upto
  line-joined j q l = record {
    steps = λ i m. ⊎_elim (λ k. l.steps i k) (λ k. joining-steps j q i k) (Memᴰ.append_cases q m);
    distinct = distinct_append q (joining P j q) l.distinct (distinct_from _ 0 (step_count P)) (λ i m k. not_in q i (joining-new j i q m).1 k);
  }

  pub line-next : (n j : ℕ) (q : List ℕ) → Line P (j ∷ q) → Line P (waiting_after P n j q)
  unfolding waiting_after
  line-next zero j q l = line-rest l
  line-next (suc n) j q l = line-joined j q (line-rest l)

  pub line-length : (q : List ℕ) → Line P q → length q ≤ step_count P
  line-length q l =
      let a = distinct-few (step_count P) q l.distinct l.steps in
      let b = select-length (waits q) (upto (step_count P)) in
      let c = upto-length (step_count P) in
      omega arith

  -- ---- how many may wait after a step, and what they cost

  joining-length : (j : ℕ) (q : List ℕ) → length (joining P j q) ≤ step_count P
  unfolding joining
  joining-length j q =
      let n = upto-length (step_count P) in
      let l : length (joining P j q) ≤ length (upto (step_count P)) = select-length _ (upto (step_count P)) in
      omega arith

  -- a step that struck n bits: as many steps more as there are, at most, for each of these
  waiting_cost : (n j : ℕ) (q T U : List ℕ) → n + size U ≡ size T
      → length (waiting_after P n j q) + step_count P * size U ≤ length q + step_count P * size T
  unfolding waiting_after
  waiting_cost zero j q T U e = let k : size U ≡ size T = omega arith in omega (arith, ap (λ (m : ℕ). step_count P * m) k)
  waiting_cost (suc n) j q T U e =
      let k : suc (size U) ≤ size T = omega arith in
      let a = length-append q (joining P j q) in
      let b = joining-length j q in
      omega (arith, mul-le-mul_left (step_count P) k, mul-suc (step_count P) (size U))

  -- after step j on T, of which it leaves U
  abbrev pub left : ℕ → List ℕ → List ℕ
  left j T = narrowed P (step_at P j) T

  abbrev pub next : ℕ → List ℕ → List ℕ → List ℕ
  next j q T = waiting_after P (struck T (left j T)) j q

  pub next_cost : (j : ℕ) (q T : List ℕ) → length (next j q T) + step_count P * size (left j T) ≤ length q + step_count P * size T
  next_cost j q T = waiting_cost (struck T (left j T)) j q T (left j T) (struck-size T (left j T) (narrowed-below P (step_at P j) T))

  -- ---- the equations of a run, without a bound on its steps

  -- one step, and then the others
  abbrev pub further : Ran → Ran
  further r = record { steps = suc r.steps; table = r.table }

  running_in_fuel : (f g : ℕ) (q T : List ℕ) → length q + step_count P * size T ≤ f → length q + step_count P * size T ≤ g → running_in f P q T ≡ running_in g P q T
  unfolding running_in
  running_in_fuel zero zero q T h k = refl
  running_in_fuel zero (suc g) [] T h k = refl
  running_in_fuel zero (suc g) (j ∷ q) T h k = absurd (omega arith)
  running_in_fuel (suc f) zero [] T h k = refl
  running_in_fuel (suc f) zero (j ∷ q) T h k = absurd (omega arith)
  running_in_fuel (suc f) (suc g) [] T h k = refl
  running_in_fuel (suc f) (suc g) (j ∷ q) T h k =
      let c = next_cost j q T in
      ap further (running_in_fuel f g (next j q T) (left j T) (omega arith) (omega arith))

  pub running_none : (T : List ℕ) → running P [] T ≡ record { steps = 0; table = T }
  unfolding running running_in
  running_none T = running_in_fuel (0 + step_count P * size T) (suc (step_count P * size T)) [] T (omega arith) (omega arith)

  pub running-next : (j : ℕ) (q T : List ℕ)
      → running P (j ∷ q) T ≡ further (running P (waiting_after P (struck T (narrowed P (step_at P j) T)) j q) (narrowed P (step_at P j) T))
  unfolding running running_in
  running-next j q T =
      let m : ℕ = length q + step_count P * size T in
      let c = next_cost j q T in
      running_in_fuel (length (j ∷ q) + step_count P * size T) (suc m) (j ∷ q) T (omega arith) (omega arith)
      ∙ ap further (running_in_fuel m (length (next j q T) + step_count P * size (left j T)) (next j q T) (left j T) (omega arith) (omega arith))

  -- ---- the table that is left lies below the start, and above every stable table that does

  running_in-below : (f : ℕ) (q T : List ℕ) → Below (running_in f P q T).table T
  unfolding running_in
  running_in-below zero q T = below_refl T
  running_in-below (suc f) [] T = below_refl T
  running_in-below (suc f) (j ∷ q) T = below_trans (running_in-below f (next j q T) (left j T)) (narrowed-below P (step_at P j) T)

  running_in-above : (f : ℕ) (q W T : List ℕ) → Steps q → Stable P W → Below W T → Below W (running_in f P q T).table
  unfolding running_in
  running_in-above zero q W T h s p = p
  running_in-above (suc f) [] W T h s p = p
  running_in-above (suc f) (j ∷ q) W T h s p =
      let c : Constraint = step_at P j in
      running_in-above f (next j q T) W (left j T) (waiting-steps (struck T (left j T)) j q (λ i m. h i (Memᴰ.tail m))) s
      (below_trans (below-of-eq (sym (s c (step_in P j (h j (Memᴰ.head refl)))))) (narrowed-mono P c p))

  pub queueing-below : (T : List ℕ) → Below (queueing P T).table T
  unfolding queueing running
  queueing-below T = running_in-below _ (upto (step_count P)) T

  pub queueing-above : (W T : List ℕ) → Stable P W → Below W T → Below W (queueing P T).table
  unfolding queueing running
  queueing-above W T = running_in-above _ (upto (step_count P)) W T (λ j m. of-upto (step_count P) m)

  -- ---- the steps run: at most (c + s) times one more than the bits struck

  running_in_cost : (f : ℕ) (q T : List ℕ) → (running_in f P q T).steps + step_count P * size (running_in f P q T).table ≤ length q + step_count P * size T
  unfolding running_in
  running_in_cost zero q T = omega arith
  running_in_cost (suc f) [] T = omega arith
  running_in_cost (suc f) (j ∷ q) T =
      let c = next_cost j q T in
      let r = running_in_cost f (next j q T) (left j T) in
      omega arith

  pub queueing-steps : (T : List ℕ) → (queueing P T).steps ≤ step_count P * suc (struck T (queueing P T).table)
  unfolding queueing running
  queueing-steps T =
      let W : List ℕ = (running_in (length (upto (step_count P)) + step_count P * size T) P (upto (step_count P)) T).table in
      let c = running_in_cost (length (upto (step_count P)) + step_count P * size T) (upto (step_count P)) T in
      let n = upto-length (step_count P) in
      let e = ap (λ (m : ℕ). step_count P * m) (struck-size T W (running_in-below _ (upto (step_count P)) T)) in
      omega (arith, mul-add (step_count P) (struck T W) (size W), mul-suc (step_count P) (struck T W))
