-- Laws of the search within a budget: as a walk along the tree's nodes, and what found and none say of solutions. Assumes nothing.
use mathlib.Core.Path.{◌≡◌, refl, sym, ap, ◌∙◌}
use mathlib.Core.Logic.{◌⊎◌, inl, inr, ⊎_elim}
use mathlib.Core.Bool.{Bool, true, false, cond}
use mathlib.Core.List.Memᴰ
use mathlib.Core.List.{List, [], ◌∷◌, ◌++◌}
use mathlib.Core.Option.{Option, Option-elim}
use Prim.Native.Nat.{ℕ, zero, suc, ◌+◌, ◌≤◌, ◌<◌}
use native.Mathlib.Omega.{arith}
use lib.ListN.{length}
use borrow.Author.Tests.{le-leb, lt-leb}
use Rattle.model.specs.Lists.{find, map_from}
use Rattle.model.specs.Words.{Words, size}
use Rattle.model.specs.Constraints.{Choice, Problem, width}
use Rattle.model.specs.Solutions.{Solution, table_of, WellFormed}
use Rattle.model.specs.Order.{First}
use Rattle.model.specs.Tree.{solved, nodes, numbered, first_solved, found, none, spent, Search, hit, miss, searching}
use Rattle.model.specs.Claim.{NoneSolved}
use Rattle.laws.specs.Inclusion.{In}
use Rattle.laws.specs.Traversal.{visit}
use Rattle.laws.proofs.TreeLaws.{FirstIn, here, later, none-cons, none-some, complete, first}

pub none≢found : {i n : ℕ} → none i ≡ found n → ⊥
none≢found {i} {n} e = let z : ◌≡◌ {A = ℕ} 0 1 = cc in omega arith

pub spent≢none : {i n : ℕ} → spent i ≡ none n → ⊥
spent≢none {i} {n} e = let z : ◌≡◌ {A = ℕ} 0 1 = cc in omega arith

pub spent≢found : {i n : ℕ} → spent i ≡ found n → ⊥
spent≢found {i} {n} e = let z : ◌≡◌ {A = ℕ} 0 1 = cc in omega arith

-- ---- the search as a walk along the nodes

module _ (P : Problem) (A : List ℕ) where
  -- the first solved node of those numbered from n on, against a budget, where the whole tree has `count` nodes
  from-number : ℕ → ℕ → ℕ → List (List ℕ) → Search
  from-number budget count n ns = Option-elim (find (λ N. solved P N.table) (map_from n (λ m S. record { number = m; table = S }) ns)) (miss budget A count) (hit budget A)

  -- no node within the budget
  past_budget : (budget count n : ℕ) (ns : List (List ℕ)) → budget < n → budget < count → from-number budget count n ns ≡ record { outcome = spent budget; table = A }
  unfolding from-number find map_from Option-elim hit miss
  past_budget budget count n [] h k = rw (lt-leb count budget k)
  past_budget budget count n (S ∷ ns) h k = go (solved P S) (past_budget budget count (suc n) ns (omega arith) k)
    where
      go : (t : Bool) → from-number budget count (suc n) ns ≡ record { outcome = spent budget; table = A }
          → Option-elim (cond t (Option.some (record { number = n; table = S })) (find (λ N. solved P N.table) (map_from (suc n) (λ m S. record { number = m; table = S }) ns))) (miss budget A count) (hit budget A)
          ≡ record { outcome = spent budget; table = A }
      go true r = rw (lt-leb n budget h)
      go false r = r

  walk : (i b : ℕ) (ns : List (List ℕ)) → from-number (i + b) (i + length ns) (suc i) ns ≡ visit P A i b ns
  unfolding from-number find map_from Option-elim hit miss visit
  walk i b [] = let q : i + 0 ≡ i = omega arith in rw (q, le-leb i (i + b) (omega arith))
  walk i zero (S ∷ ns) = let q : i + 0 ≡ i = omega arith in past_budget (i + 0) (i + suc (length ns)) (suc i) (S ∷ ns) (omega arith) (omega arith) ∙ ap (λ (n : ℕ). record { outcome = spent n; table = A }) q
  walk i (suc b) (S ∷ ns) = go (solved P S) (walk (suc i) b ns)
    where
      e : i + suc b ≡ suc i + b
      e = omega arith

      d : i + suc (length ns) ≡ suc i + length ns
      d = omega arith

      go : (t : Bool) → from-number (suc i + b) (suc i + length ns) (suc (suc i)) ns ≡ visit P A (suc i) b ns
          → Option-elim (cond t (Option.some (record { number = suc i; table = S })) (find (λ N. solved P N.table) (map_from (suc (suc i)) (λ m S. record { number = m; table = S }) ns))) (miss (i + suc b) A (i + suc (length ns))) (hit (i + suc b) A)
          ≡ cond t (record { outcome = found (suc i); table = S }) (visit P A (suc i) b ns)
      go true r = rw (le-leb (suc i) (i + suc b) (omega arith))
      go false r = rw (e, d) r

  pub search-visit : (F : List ℕ) (budget : ℕ) → searching P F budget A ≡ visit P A 0 budget (nodes P F)
  unfolding searching first_solved numbered from-number
  search-visit F budget = let e : 0 + budget ≡ budget = omega arith in let d : 0 + length (nodes P F) ≡ length (nodes P F) = omega arith in rw (e, d) at (walk 0 budget (nodes P F))

-- ---- what the walk says of the nodes

module _ (P : Problem) (A : List ℕ) where
  visit-found : (i b : ℕ) (ns : List (List ℕ)) (n : ℕ) → (visit P A i b ns).outcome ≡ found n → FirstIn P (visit P A i b ns).table ns
  unfolding visit
  visit-found i b [] n e = absurd (none≢found e)
  visit-found i zero (S ∷ ns) n e = absurd (spent≢found e)
  visit-found i (suc b) (S ∷ ns) n e = go (solved P S) refl e (λ q. visit-found (suc i) b ns n q)
    where
      go : (t : Bool) → solved P S ≡ t → (cond {A = Search} t (record { outcome = found (suc i); table = S }) (visit P A (suc i) b ns)).outcome ≡ found n
          → ((visit P A (suc i) b ns).outcome ≡ found n → FirstIn P (visit P A (suc i) b ns).table ns)
          → FirstIn P (cond {A = Search} t (record { outcome = found (suc i); table = S }) (visit P A (suc i) b ns)).table (S ∷ ns)
      go true v q rec = here refl v
      go false v q rec = later v (rec q)

  visit-none : (i b : ℕ) (ns : List (List ℕ)) (n : ℕ) → (visit P A i b ns).outcome ≡ none n → NoneSolved P ns
  unfolding visit
  visit-none i b [] n e = λ M m. elim m [ ]
  visit-none i zero (S ∷ ns) n e = absurd (spent≢none e)
  visit-none i (suc b) (S ∷ ns) n e = go (solved P S) refl e (λ q. visit-none (suc i) b ns n q)
    where
      go : (t : Bool) → solved P S ≡ t → (cond {A = Search} t (record { outcome = found (suc i); table = S }) (visit P A (suc i) b ns)).outcome ≡ none n
          → ((visit P A (suc i) b ns).outcome ≡ none n → NoneSolved P ns) → NoneSolved P (S ∷ ns)
      go true v q rec = absurd (none≢found (sym q))
      go false v q rec = none-cons P v (rec q)

  visit-near : (i b : ℕ) (xs ys : List (List ℕ)) (N : List ℕ) → NoneSolved P xs → solved P N ≡ true → length xs < b → visit P A i b (xs ++ N ∷ ys) ≡ record { outcome = found (suc (i + length xs)); table = N }
  unfolding visit
  visit-near i zero xs ys N h s l = absurd (omega arith)
  visit-near i (suc b) [] ys N h s l = let q : suc i ≡ suc (i + 0) = omega arith in rw s (ap (λ (n : ℕ). record { outcome = found n; table = N }) q)
  visit-near i (suc b) (x ∷ xs) ys N h s l =
      let v = h x (Memᴰ.head refl) in
      let q : suc (suc i + length xs) ≡ suc (i + suc (length xs)) = omega arith in
      rw v (visit-near (suc i) b xs ys N (λ M m. h M (Memᴰ.tail m)) s (omega arith) ∙ ap (λ (n : ℕ). record { outcome = found n; table = N }) q)

  visit-whole : (i b : ℕ) (ns : List (List ℕ)) → length ns ≤ b → ((n : ℕ) × ((visit P A i b ns).outcome ≡ found n)) ⊎ (((visit P A i b ns).outcome ≡ none (i + length ns)) × NoneSolved P ns)
  unfolding visit
  visit-whole i b [] l = let q : i ≡ i + 0 = omega arith in inr (ap none q, λ M m. elim m [ ])
  visit-whole i zero (S ∷ ns) l = absurd (omega arith)
  visit-whole i (suc b) (S ∷ ns) l = go (solved P S) refl (visit-whole (suc i) b ns (omega arith))
    where
      go : (t : Bool) → solved P S ≡ t
          → ((n : ℕ) × ((visit P A (suc i) b ns).outcome ≡ found n)) ⊎ (((visit P A (suc i) b ns).outcome ≡ none (suc i + length ns)) × NoneSolved P ns)
          → ((n : ℕ) × ((cond {A = Search} t (record { outcome = found (suc i); table = S }) (visit P A (suc i) b ns)).outcome ≡ found n))
          ⊎ (((cond {A = Search} t (record { outcome = found (suc i); table = S }) (visit P A (suc i) b ns)).outcome ≡ none (i + suc (length ns))) × NoneSolved P (S ∷ ns))
      go true v r = inl (suc i, refl)
      go false v (inl r) = inl r
      go false v (inr r) = let q : suc i + length ns ≡ i + suc (length ns) = omega arith in inr (r.0 ∙ ap none q, none-cons P v r.1)

-- ---- what the search says of solutions

module _ (P : Problem) (wf : WellFormed P) (F : List ℕ) (bd : Words F) (ln : length F ≡ width P) (budget : ℕ) (A : List ℕ) where
  node-first : (N : List ℕ) → FirstIn P N (nodes P F) → (α : Choice) × First P F α × (N ≡ table_of P α)
  unfolding nodes
  node-first N fi = first P wf (suc (size F)) F bd ln (omega arith) N fi

  node-some : (α : Choice) → Solution P F α → (N : List ℕ) × In N (nodes P F) × (solved P N ≡ true)
  unfolding nodes
  node-some α s = complete P wf (suc (size F)) F bd ln (omega arith) α s

  none-solved : NoneSolved P (nodes P F) → (α : Choice) → Solution P F α → ⊥
  none-solved h α s = none-some P h (node-some α s)

  walked : searching P F budget A ≡ visit P A 0 budget (nodes P F)
  walked = search-visit P A F budget

  pub search-first : (n : ℕ) → (searching P F budget A).outcome ≡ found n → (α : Choice) × First P F α × ((searching P F budget A).table ≡ table_of P α)
  search-first n e =
      let t = node-first (visit P A 0 budget (nodes P F)).table (visit-found P A 0 budget (nodes P F) n (ap (λ (z : Search). z.outcome) (sym walked) ∙ e)) in
      (t.0, t.1, ap (λ (z : Search). z.table) walked ∙ t.2)

  pub search-empty : (n : ℕ) → (searching P F budget A).outcome ≡ none n → (α : Choice) → Solution P F α → ⊥
  search-empty n e = none-solved (visit-none P A 0 budget (nodes P F) n (ap (λ (z : Search). z.outcome) (sym walked) ∙ e))

  pub search-near : (before after : List (List ℕ)) (S : List ℕ) → nodes P F ≡ before ++ S ∷ after → NoneSolved P before → solved P S ≡ true → length before < budget
      → searching P F budget A ≡ record { outcome = found (suc (length before)); table = S }
  search-near before after S e h s l =
      let q : suc (0 + length before) ≡ suc (length before) = omega arith in
      walked ∙ ap (visit P A 0 budget) e ∙ visit-near P A 0 budget before after S h s l ∙ ap (λ (n : ℕ). record { outcome = found n; table = S }) q

  pub search-whole : length (nodes P F) ≤ budget → (α : Choice) → Solution P F α → (n : ℕ) × ((searching P F budget A).outcome ≡ found n)
  search-whole l α s = ⊎_elim (λ r. (r.0, ap (λ (z : Search). z.outcome) walked ∙ r.1)) (λ r. absurd (none-solved r.1 α s)) (visit-whole P A 0 budget (nodes P F) l)

  pub search-nothing : length (nodes P F) ≤ budget → ((α : Choice) → Solution P F α → ⊥) → (searching P F budget A).outcome ≡ none (length (nodes P F))
  search-nothing l h =
      let q : 0 + length (nodes P F) ≡ length (nodes P F) = omega arith in
      ⊎_elim (λ r. let t = node-first (visit P A 0 budget (nodes P F)).table (visit-found P A 0 budget (nodes P F) r.0 r.1) in absurd (h t.0 t.1.solution))
      (λ r. ap (λ (z : Search). z.outcome) walked ∙ r.0 ∙ ap none q) (visit-whole P A 0 budget (nodes P F) l)
