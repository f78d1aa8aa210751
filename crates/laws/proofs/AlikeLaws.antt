-- Two problems that mean the same have the same answers: of a problem these take only how many strings and numbers it has and, of each step, its variables
-- and which choices meet it. Assumes nothing.
use mathlib.Core.Path.{◌≡◌, refl, sym, ap, subst, ◌∙◌}
use mathlib.Core.Bool.{Bool, true, false, cond, not, ◌&&◌}
use mathlib.Core.List.{List, [], ◌∷◌, ◌++◌, map, flat_map}
use mathlib.Core.Option.{Option-elim, bind}
use Prim.Native.Nat.{ℕ, zero, suc, ◌+◌, ◌-◌, ◌*◌, ◌<◌}
use native.Mathlib.Omega.{arith}
use lib.Dec.{eqb, leb, ltb}
use lib.ListN.{length, get_or}
use borrow.Author.Tests.{ltb-true}
use Rattle.model.specs.Lists.{select, any, all, find, map_from, upto}
use Rattle.model.specs.Words.{several, size, union, word}
use Rattle.model.specs.Domains.{Variable, str, num, same_variable, values_of, owner}
use Rattle.model.specs.Constraints.{Choice, Problem, Constraint, always, variables, meets}
use Rattle.model.specs.Solutions.{Solution, used}
use Rattle.model.specs.Support.{choices, supports, touches, narrowed, struck}
use Rattle.model.specs.Rounds.{variables_of, value_count, every_value, steps, run, round, after, settling_in, settling, settled}
use Rattle.model.specs.Tree.{solved, words_of, branch_variable, branch_word, branch, restricted, children, nodes_in, nodes, first_solved, numbered, hit, miss, searching}
use Rattle.model.specs.Operations.{step_at, step_count}
use Rattle.model.specs.StepIndex.{step_touches}
use Rattle.model.specs.Queue.{sharing, joining, waiting_after, running_in, running, queueing}
use Rattle.model.specs.Sink.{SameAnswers}
use Rattle.laws.specs.Inclusion.{In}
use Rattle.laws.proofs.ListLaws.{get_or_in, in_get_or}
use Rattle.laws.proofs.RoundLaws.{run-append}

-- constraint c of P and constraint d of Q mean the same: they name the same variables, and the same choices meet them
pub record Agreeing (P Q : Problem) (c d : Constraint) : Type 0 where
  pub variables-same : variables c ≡ variables d
  pub meets-same : (γ : Choice) → meets P c γ ≡ meets Q d γ

-- constraints of P and as many of Q mean the same, place by place
pub record Matching (P Q : Problem) (cs ds : List Constraint) : Type 0 where
  pub as_many : length cs ≡ length ds
  pub each : (j : ℕ) → j < length cs → Agreeing P Q (get_or cs j (always 0)) (get_or ds j (always 0))

-- P and Q mean the same; their symbols and their automata may differ, as far as the constraints let them
pub record Alike (P Q : Problem) : Type 0 where
  pub strings-same : P.strings ≡ Q.strings
  pub numbers-same : P.numbers ≡ Q.numbers
  pub constraints_match : Matching P Q P.constraints Q.constraints

-- ---- one step

-- what a step takes from the problem and its constraint: the number of strings, the variables, and which choices meet it
unfoldable narrowing : ℕ → List Variable → (Choice → Bool) → List ℕ → List ℕ
narrowing s vs met T =
    let good = select met (choices s T vs) in
    map_from 0 (λ i w. cond (any (same_variable (owner s i)) vs) (union (map (λ γ. used s γ i) good)) w) T

module _ (P Q : Problem) where
  trims-agree : (x : ℕ) → Agreeing P Q (always x) (always x)
  unfolding meets
  trims-agree x = record { variables-same = refl; meets-same = λ γ. refl }

  agreeing_sym : {c d : Constraint} → Agreeing P Q c d → Agreeing Q P d c
  agreeing_sym a = record { variables-same = sym a.variables-same; meets-same = λ γ. sym (a.meets-same γ) }

  matching_sym : {cs ds : List Constraint} → Matching P Q cs ds → Matching Q P ds cs
  matching_sym m = record { as_many = sym m.as_many; each = λ j h. agreeing_sym (m.each j (subst (λ (n : ℕ). j < n) (sym m.as_many) h)) }

  alike_sym : Alike P Q → Alike Q P
  alike_sym a = record { strings-same = sym a.strings-same; numbers-same = sym a.numbers-same; constraints_match = matching_sym a.constraints_match }

  matching_rest : {c d : Constraint} {cs ds : List Constraint} → Matching P Q (c ∷ cs) (d ∷ ds) → Matching P Q cs ds
  matching_rest m = record { as_many = (let e = m.as_many in omega arith); each = λ j h. m.each (suc j) (omega arith) }

  narrowed-alike : P.strings ≡ Q.strings → {c d : Constraint} → Agreeing P Q c d → (T : List ℕ) → narrowed P c T ≡ narrowed Q d T
  unfolding narrowed supports touches narrowing
  narrowed-alike e a T = λ i. narrowing (e i) (a.variables-same i) (λ γ. a.meets-same γ i) T

-- ---- all that SameAnswers asks

module _ (P Q : Problem) (alike : Alike P Q) where
  step-agrees : (j : ℕ) → Agreeing P Q (step_at P j) (step_at Q j)
  unfolding step_at
  step-agrees j =
      subst (λ (n : ℕ). Agreeing P Q (step_at P j) (cond (ltb j n) (get_or Q.constraints j (always 0)) (always (j - n))))
      alike.constraints_match.as_many (go (ltb j m) refl)
    where
      m : ℕ
      m = length P.constraints

      go : (t : Bool) → ltb j m ≡ t
          → Agreeing P Q (cond t (get_or P.constraints j (always 0)) (always (j - m))) (cond t (get_or Q.constraints j (always 0)) (always (j - m)))
      go true e = alike.constraints_match.each j (ltb-true j m e)
      go false e = trims-agree P Q (j - m)

  step-alike : (j : ℕ) (T : List ℕ) → narrowed P (step_at P j) T ≡ narrowed Q (step_at Q j) T
  step-alike j T = narrowed-alike P Q alike.strings-same (step-agrees j) T

  -- ---- solutions

  solution-alike : (T : List ℕ) (α : Choice) → Solution P T α → Solution Q T α
  solution-alike T α s =
      let m = alike.constraints_match in
      record {
        fits = record {
          texts_in = λ x h. s.fits.texts_in x (subst (λ (n : ℕ). x < n) (sym alike.strings-same) h);
          values_in = λ n h. subst (λ (k : ℕ). In (α.value n) (values_of k T n)) alike.strings-same
              (s.fits.values_in n (subst (λ (k : ℕ). n < k) (sym alike.numbers-same) h));
        };
        met = λ d k.
            let t = in_get_or Q.constraints (always 0) k in
            let h : t.0 < length P.constraints = subst (λ (n : ℕ). t.0 < n) (sym m.as_many) t.1 in
            ap (λ (d : Constraint). meets Q d α) (sym t.2) ∙ sym ((m.each t.0 h).meets-same α) ∙ s.met _ (get_or_in P.constraints t.0 (always 0) h);
      }

  -- ---- rounds

  run-alike : (cs ds : List Constraint) → Matching P Q cs ds → (T : List ℕ) → run P cs T ≡ run Q ds T
  unfolding run
  run-alike [] [] m T = refl
  run-alike [] (d ∷ ds) m T = let e = m.as_many in absurd (omega arith)
  run-alike (c ∷ cs) [] m T = let e = m.as_many in absurd (omega arith)
  run-alike (c ∷ cs) (d ∷ ds) m T =
      run-alike cs ds (matching_rest P Q m) (narrowed P c T) ∙ ap (run Q ds) (narrowed-alike P Q alike.strings-same (m.each 0 (omega arith)) T)

  trims-alike : (xs : List ℕ) (T : List ℕ) → run P (map always xs) T ≡ run Q (map always xs) T
  unfolding run
  trims-alike [] T = refl
  trims-alike (x ∷ xs) T =
      trims-alike xs (narrowed P (always x) T) ∙ ap (run Q (map always xs)) (narrowed-alike P Q alike.strings-same (trims-agree P Q x) T)

  round-alike : (T : List ℕ) → round P T ≡ round Q T
  unfolding round steps
  round-alike T =
      run-append P (map always (upto P.strings)) P.constraints T
      ∙ run-alike P.constraints Q.constraints alike.constraints_match (run P (map always (upto P.strings)) T)
      ∙ ap (run Q Q.constraints) (trims-alike (upto P.strings) T ∙ ap (λ (s : ℕ). run Q (map always (upto s)) T) alike.strings-same)
      ∙ sym (run-append Q (map always (upto Q.strings)) Q.constraints T)

  settling_in-alike : (f : ℕ) (T : List ℕ) → settling_in f P T ≡ settling_in f Q T
  unfolding settling_in
  settling_in-alike zero T = refl
  settling_in-alike (suc f) T =
      ap (λ (U : List ℕ). after (struck T U) U (settling_in f P U)) (round-alike T)
      ∙ ap (after (struck T (round Q T)) (round Q T)) (settling_in-alike f (round Q T))

  settling-alike : (T : List ℕ) → settling P T ≡ settling Q T
  unfolding settling
  settling-alike T = settling_in-alike (suc (size T)) T

  -- ---- the queue

  step-variables : (j : ℕ) → variables (step_at P j) ≡ variables (step_at Q j)
  step-variables j = (step-agrees j).variables-same

  count-alike : step_count P ≡ step_count Q
  count-alike = λ i. alike.constraints_match.as_many i + alike.strings-same i

  joining-alike : (j : ℕ) (q : List ℕ) → joining P j q ≡ joining Q j q
  unfolding joining sharing step_touches
  joining-alike j q = λ i.
      select (λ m. not (eqb m j) && any (λ v. any (same_variable v) (step-variables j i)) (step-variables m i) && not (any (eqb m) q)) (upto (count-alike i))

  waiting-alike : (n j : ℕ) (q : List ℕ) → waiting_after P n j q ≡ waiting_after Q n j q
  unfolding waiting_after
  waiting-alike zero j q = refl
  waiting-alike (suc n) j q = ap (λ (l : List ℕ). q ++ l) (joining-alike j q)

  running_in-alike : (f : ℕ) (q T : List ℕ) → running_in f P q T ≡ running_in f Q q T
  unfolding running_in
  running_in-alike zero q T = refl
  running_in-alike (suc f) [] T = refl
  running_in-alike (suc f) (j ∷ q) T =
      let U : List ℕ = narrowed Q (step_at Q j) T in
      ap (λ r. record { steps = suc r.steps; table = r.table })
      (ap (λ (U : List ℕ). running_in f P (waiting_after P (struck T U) j q) U) (step-alike j T)
      ∙ ap (λ (l : List ℕ). running_in f P l U) (waiting-alike (struck T U) j q)
      ∙ running_in-alike f (waiting_after Q (struck T U) j q) U)

  queueing-alike : (T : List ℕ) → queueing P T ≡ queueing Q T
  unfolding queueing running
  queueing-alike T =
      ap (λ (n : ℕ). running_in (length (upto n) + n * size T) P (upto n) T) count-alike
      ∙ running_in-alike (length (upto (step_count Q)) + step_count Q * size T) (upto (step_count Q)) T

  -- ---- the search

  variables-alike : variables_of P ≡ variables_of Q
  unfolding variables_of
  variables-alike = λ i. map str (upto (alike.strings-same i)) ++ map num (upto (alike.numbers-same i))

  value_count-alike : (T : List ℕ) (v : Variable) → value_count P T v ≡ value_count Q T v
  unfolding value_count
  value_count-alike T (str x) = refl
  value_count-alike T (num n) = ap (λ (s : ℕ). length (values_of s T n)) alike.strings-same

  every_value-alike : (T : List ℕ) → every_value P T ≡ every_value Q T
  unfolding every_value
  every_value-alike T = λ i. all (λ v. leb 1 (value_count-alike T v i)) (variables-alike i)

  solved-alike : (T : List ℕ) → solved P T ≡ solved Q T
  unfolding solved
  solved-alike T = λ i. all (λ v. eqb (value_count-alike T v i) 1) (variables-alike i)

  words-alike : (v : Variable) → words_of P v ≡ words_of Q v
  unfolding words_of
  words-alike (str x) = refl
  words-alike (num n) = ap (λ (s : ℕ). (64 * s + n) ∷ []) alike.strings-same

  branch-alike : (S : List ℕ) → branch P S ≡ branch Q S
  unfolding branch branch_variable branch_word
  branch-alike S = λ i. bind (find (λ v. leb 2 (value_count-alike S v i)) (variables-alike i)) (λ v. find (λ j. several (word S j)) (words-alike v i))

  children-alike : (S : List ℕ) → children P S ≡ children Q S
  unfolding children
  children-alike S = λ i. cond (every_value-alike S i) (Option-elim (branch-alike S i) [] (restricted S)) []

  nodes_in-alike : (f : ℕ) (T : List ℕ) → nodes_in f P T ≡ nodes_in f Q T
  unfolding nodes_in
  nodes_in-alike zero T = refl
  nodes_in-alike (suc f) T =
      let S : List ℕ = settled Q T in
      ap (λ r. r.table ∷ flat_map (λ U. nodes_in f P U) (children P r.table)) (settling-alike T)
      ∙ (λ i. S ∷ flat_map (λ U. nodes_in-alike f U i) (children-alike S i))

  nodes-alike : (T : List ℕ) → nodes P T ≡ nodes Q T
  unfolding nodes
  nodes-alike T = nodes_in-alike (suc (size T)) T

  searching-alike : (T : List ℕ) (budget : ℕ) (A : List ℕ) → searching P T budget A ≡ searching Q T budget A
  unfolding searching first_solved
  searching-alike T budget A = λ i.
      let ns = nodes-alike T i in
      Option-elim (find (λ N. solved-alike N.table i) (numbered ns)) (miss budget A (length ns)) (hit budget A)

pub alike_same : {P Q : Problem} → Alike P Q → SameAnswers P Q
alike_same {P} {Q} a = record {
  solutions = λ T α. (solution-alike P Q a T α, solution-alike Q P (alike_sym P Q a) T α);
  step = step-alike P Q a;
  settling = settling-alike P Q a;
  queueing = queueing-alike P Q a;
  nodes = nodes-alike P Q a;
  searching = searching-alike P Q a;
}
