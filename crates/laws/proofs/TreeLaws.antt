-- Laws of the search tree: its equation without a bound on its depth, every solution has a solved node, and the first solved node is the first solution.
-- Assumes nothing.
use mathlib.Core.Path.{◌≡◌, refl, sym, ap, subst, ◌∙◌}
use mathlib.Core.Logic.{◌⊎◌, inl, inr, ⊎_elim}
use mathlib.Core.Bool.{Bool, true, false, cond, false≢true}
use mathlib.Core.List.Memᴰ
use mathlib.Core.List.{List, [], ◌∷◌, ◌++◌, flat_map}
use mathlib.Core.Option.{Option, none, some, Option-elim}
use Prim.Native.Nat.{ℕ, zero, suc, ◌^◌, ◌≤◌, ◌<◌}
use native.Mathlib.Omega.{arith}
use lib.Dec.{ltb}
use lib.ListN.{length, set, get_or-eq_default}
use borrow.Author.Tests.{ltb-true, ltb-false}
use Rattle.model.specs.Words.{bit, bits, several, word, Words, size}
use Rattle.model.specs.Constraints.{Choice, Problem, width}
use Rattle.model.specs.Solutions.{Solution, used, table_of, WellFormed}
use Rattle.model.specs.Order.{Same, Before, First}
use Rattle.model.specs.Rounds.{every_value, settled}
use Rattle.model.specs.Tree.{solved, branch_word, branch, restricted, children, nodes_in, nodes}
use Rattle.model.specs.Claim.{NoneSolved}
use Rattle.laws.specs.Inclusion.{In, Below}
use Rattle.laws.specs.Lent.{Stable}
use Rattle.laws.specs.Traversal.{At}
use Rattle.laws.proofs.ListLaws.{in_flat_map, flat_map_cong, flat_map-map, of-find, bind-some}
use Rattle.laws.proofs.WordLaws.{zero_bit, pow_self, pow-only, of-bits, in_bits}
use Rattle.laws.proofs.BitsLaws.{Increasing, bits_increasing, several_true, two-bits}
use Rattle.laws.proofs.TableLaws.{below-words, size_le}
use Rattle.laws.proofs.RoundLaws.{settled-below, settled-above, settled-stable}
use Rattle.laws.proofs.SolutionLaws.{table_of-word, own_below, own-fits, own-stable, solution-below, fits_below}
use Rattle.laws.proofs.ChildLaws.{child-here, child-below, below-child, child-size}
use Rattle.laws.proofs.NodeLaws.{firsts, fits_every_value, solved-solution, solved-same, solved-own}
use Rattle.laws.proofs.BranchLaws.{branch-cases, children-dead, children-none, children-at, single-solved, used-one, lower-first}

-- ---- the tree without a bound on its depth

module _ (P : Problem) where
  branch-several : (S : List ℕ) (at : ℕ) → branch P S ≡ some at → 2 ≤ length (bits (word S at))
  unfolding branch branch_word
  branch-several S at e = let t = bind-some _ _ at e in several_true (word S at) (of-find (λ i. several (word S i)) _ at t.2).1

  several-inside : (S : List ℕ) (at : ℕ) → 2 ≤ length (bits (word S at)) → at < length S
  several-inside S at h = go (ltb at (length S)) refl
    where
      go : (t : Bool) → ltb at (length S) ≡ t → at < length S
      go true e = ltb-true at (length S) e
      go false e =
          let t = two-bits (word S at) h in
          absurd (false≢true (sym (zero_bit t.0) ∙ ap (λ (w : ℕ). bit w t.0) (sym (get_or-eq_default S 0 (ltb-false at (length S) e))) ∙ t.2))

  -- a child has fewer bits than its node, and only bits of the node
  pub children_smaller : (S : List ℕ) → Words S → (U : List ℕ) → In U (children P S) → (size U < size S) × Below U S
  unfolding children restricted Option-elim
  children_smaller S bd U m = go (every_value P S) (branch P S) refl m
    where
      go : (t : Bool) (o : Option ℕ) → branch P S ≡ o → In U (cond t (Option-elim o [] (restricted S)) []) → (size U < size S) × Below U S
      go true none e n = elim n [ ]
      go true (some at) e n =
          let t = Memᴰ.of_map _ _ n in
          let two = branch-several S at e in
          let inside = several-inside S at two in
          let there : bit (word S at) t.0 ≡ true = (of-bits (word S at) t.1).0 in
          (subst (λ (W : List ℕ). size W < size S) t.2 (child-size S at t.0 inside bd there two), subst (λ (W : List ℕ). Below W S) t.2 (child-below S at t.0 inside there))
      go false none e n = elim n [ ]
      go false (some at) e n = elim n [ ]

  nodes_in_fuel : (f g : ℕ) (T : List ℕ) → Words T → size T < f → size T < g → nodes_in f P T ≡ nodes_in g P T
  unfolding nodes_in
  nodes_in_fuel zero g T bd h k = absurd (omega arith)
  nodes_in_fuel (suc f) zero T bd h k = absurd (omega arith)
  nodes_in_fuel (suc f) (suc g) T bd h k =
      let S : List ℕ = settled P T in
      let p : Below S T = settled-below P T in
      let le = size_le S T p in
      let bS : Words S = below-words p bd in
      ap (λ l. S ∷ l) (flat_map_cong (λ U. nodes_in f P U) (λ U. nodes_in g P U) (children P S) (λ U m.
      let c = children_smaller S bS U m in
      let s = c.0 in
      nodes_in_fuel f g U (below-words c.1 bS) (omega arith) (omega arith)))

  pub nodes-step : (T : List ℕ) → Words T → nodes P T ≡ settled P T ∷ flat_map (nodes P) (children P (settled P T))
  unfolding nodes nodes_in
  nodes-step T bd =
      let S : List ℕ = settled P T in
      let p : Below S T = settled-below P T in
      let le = size_le S T p in
      let bS : Words S = below-words p bd in
      ap (λ l. S ∷ l) (flat_map_cong (λ U. nodes_in (size T) P U) (λ U. nodes_in (suc (size U)) P U) (children P S) (λ U m.
      let c = children_smaller S bS U m in
      let s = c.0 in
      nodes_in_fuel (size T) (suc (size U)) U (below-words c.1 bS) (omega arith) (omega arith)))

  -- a node's subtree depends only on its settled table
  pub nodes-settled : (T U : List ℕ) → Words T → Words U → settled P T ≡ settled P U → nodes P T ≡ nodes P U
  nodes-settled T U bT bU e = nodes-step T bT ∙ ap (λ (S : List ℕ). S ∷ flat_map (nodes P) (children P S)) e ∙ sym (nodes-step U bU)

-- ---- the first solved node of a list

pub data FirstIn (P : Problem) (N : List ℕ) : List (List ℕ) → Type 0 where
  here : {M : List ℕ} {ns : List (List ℕ)} → M ≡ N → solved P N ≡ true → FirstIn P N (M ∷ ns)
  later : {M : List ℕ} {ns : List (List ℕ)} → solved P M ≡ false → FirstIn P N ns → FirstIn P N (M ∷ ns)

module _ (P : Problem) where
  pub none-cons : {M : List ℕ} {ns : List (List ℕ)} → solved P M ≡ false → NoneSolved P ns → NoneSolved P (M ∷ ns)
  none-cons p h K (Memᴰ.head e) = ap (solved P) e ∙ p
  none-cons p h K (Memᴰ.tail m) = h K m

  -- a list with a solved node is not one of unsolved nodes
  pub none-some : {ns : List (List ℕ)} → NoneSolved P ns → (N : List ℕ) × In N ns × (solved P N ≡ true) → ⊥
  none-some h t = false≢true (sym (h t.0 t.1) ∙ t.2)

  first-append : (xs ys : List (List ℕ)) (N : List ℕ) → FirstIn P N (xs ++ ys) → FirstIn P N xs ⊎ (NoneSolved P xs × FirstIn P N ys)
  first-append [] ys N f = inr ((λ M m. elim m [ ]), f)
  first-append (x ∷ xs) ys N (here e s) = inl (here e s)
  first-append (x ∷ xs) ys N (later p f) = ⊎_elim (λ g. inl (later p g)) (λ g. inr (none-cons p g.0, g.1)) (first-append xs ys N f)

  -- the first solved node below some children: in the first child that has one
  first_below : (sub : ℕ → List (List ℕ)) (bs : List ℕ) → Increasing bs → (N : List ℕ) → FirstIn P N (flat_map sub bs)
      → (b : ℕ) × In b bs × FirstIn P N (sub b) × ((c : ℕ) → In c bs → (c ≡ b) ⊎ ((b < c) ⊎ NoneSolved P (sub c)))
  unfolding flat_map
  first_below sub [] inc N f = elim f [ ]
  first_below sub (b ∷ bs) inc N f = ⊎_elim at_head (λ g. in_tail g.0 (first_below sub bs inc.1 N g.1)) (first-append (sub b) (flat_map sub bs) N f)
    where
      at_head : FirstIn P N (sub b) → (d : ℕ) × In d (b ∷ bs) × FirstIn P N (sub d) × ((c : ℕ) → In c (b ∷ bs) → (c ≡ d) ⊎ ((d < c) ⊎ NoneSolved P (sub c)))
      at_head g = (b, Memᴰ.head refl, g, λ c m. elim m [ Memᴰ.head e ↦ inl e | Memᴰ.tail k ↦ inr (inl (inc.0 c k)) ])

      in_tail : NoneSolved P (sub b) → (d : ℕ) × In d bs × FirstIn P N (sub d) × ((c : ℕ) → In c bs → (c ≡ d) ⊎ ((d < c) ⊎ NoneSolved P (sub c)))
          → (d : ℕ) × In d (b ∷ bs) × FirstIn P N (sub d) × ((c : ℕ) → In c (b ∷ bs) → (c ≡ d) ⊎ ((d < c) ⊎ NoneSolved P (sub c)))
      in_tail n r = (r.0, Memᴰ.tail r.1, r.2, λ c m. elim m [ Memᴰ.head e ↦ inr (inr (subst (λ (y : ℕ). NoneSolved P (sub y)) (sym e) n)) | Memᴰ.tail k ↦ r.3 c k ])

-- a solution uses one bit of word `at`, which S has, and is a solution within the child with that bit
pub record Goes (P : Problem) (S : List ℕ) (at : ℕ) (α : Choice) : Type 0 where
  pub value : ℕ
  pub uses : used P.strings α at ≡ 2 ^ value
  pub there : bit (word S at) value ≡ true
  pub on : Solution P (set S at (2 ^ value)) α

module _ (P : Problem) (wf : WellFormed P) where
  -- a solution stays one in a table that has its bits
  pub solution-own : {T U : List ℕ} (α : Choice) → Solution P T α → Below (table_of P α) U → Solution P U α
  solution-own {T} α s p = record { fits = fits_below P α p (own-fits P α T s.fits); met = s.met }

  pub settled-keeps : (T : List ℕ) → length T ≡ width P → (α : Choice) → Solution P T α → Solution P (settled P T) α
  settled-keeps T e α s = solution-own α s (settled-above P (table_of P α) T (own-stable P α T wf s) (own_below P α T e s.fits))

  -- a solution goes on into the child of its own bit
  goes : (S : List ℕ) → Words S → length S ≡ width P → Stable P S → (at : ℕ) → At S at → (α : Choice) → Solution P S α → Goes P S at α
  goes S bd ln st at a α s =
      let inside : at < width P = subst (λ (n : ℕ). at < n) ln a.inside in
      let u = used-one P wf S bd ln st α s.fits at a inside in
      let p : Below (table_of P α) S = own_below P α S ln s.fits in
      let e : word (table_of P α) at ≡ 2 ^ u.0 = table_of-word P α at inside ∙ u.1 in
      record {
        value = u.0;
        uses = u.1;
        there = p.within at u.0 (ap (λ (w : ℕ). bit w u.0) e ∙ pow_self u.0);
        on = solution-own α s (below-child S at u.0 a.inside (table_of P α) p (λ c q. pow-only u.0 c (ap (λ (w : ℕ). bit w c) (sym e) ∙ q)));
      }

  -- ---- one node: the table T is settled to S

  module _ (T : List ℕ) (bd : Words T) (ln : length T ≡ width P) where
    abbrev S : List ℕ
    S = settled P T

    p : Below S T
    p = settled-below P T

    lS : length S ≡ width P
    lS = p.same_length ∙ ln

    bS : Words S
    bS = below-words p bd

    st : Stable P S
    st = settled-stable P T bd

    -- a solved node at or below this one, where a solution's child has one
    complete-at : (f : ℕ) → size T < suc f → (α : Choice) → Solution P T α
        → ((U : List ℕ) → Words U → length U ≡ width P → size U < f → Solution P U α → (N : List ℕ) × In N (nodes_in f P U) × (solved P N ≡ true))
        → (N : List ℕ) × In N (S ∷ flat_map (λ U. nodes_in f P U) (children P S)) × (solved P N ≡ true)
    complete-at f h α s rec = go (solved P S) refl
      where
        sS : Solution P S α
        sS = settled-keeps T ln α s

        lives : every_value P S ≡ true
        lives = fits_every_value P S α sS.fits

        below : (at : ℕ) → branch P S ≡ some at → At S at → (N : List ℕ) × In N (S ∷ flat_map (λ U. nodes_in f P U) (children P S)) × (solved P N ≡ true)
        below at e a =
            let g = goes S bS lS st at a α sS in
            let b : ℕ = g.value in
            let U : List ℕ = set S at (2 ^ b) in
            let pU : Below U S = child-below S at b a.inside g.there in
            let smaller = child-size S at b a.inside bS g.there a.two in
            let le = size_le S T p in
            let r = rec U (below-words pU bS) (pU.same_length ∙ lS) (omega arith) g.on in
            let m : In U (children P S) = subst (λ (l : List (List ℕ)). In U l) (sym (children-at P wf S bS lS st at e lives))
            (Memᴰ.map (λ b. set S at (2 ^ b)) (in_bits (word S at) b g.there (bS at b g.there))) in
            (r.0, Memᴰ.tail (in_flat_map (λ U. nodes_in f P U) m r.1), r.2)

        go : (t : Bool) → solved P S ≡ t → (N : List ℕ) × In N (S ∷ flat_map (λ U. nodes_in f P U) (children P S)) × (solved P N ≡ true)
        go true e = (S, Memᴰ.head refl, e)
        go false e =
            ⊎_elim (λ n. absurd (false≢true (sym e ∙ single-solved P wf S bS lS st lives n.1))) (λ t. below t.0 t.1 t.2) (branch-cases P wf S bS lS st)

    -- the first solved node at or below this one is its first solution, where that holds of its children and every solution of a child has a solved node
    first-at : (f : ℕ) → size T < suc f → (N : List ℕ) → FirstIn P N (S ∷ flat_map (λ U. nodes_in f P U) (children P S))
        → ((U : List ℕ) → Words U → length U ≡ width P → size U < f → (α : Choice) → Solution P U α → (N : List ℕ) × In N (nodes_in f P U) × (solved P N ≡ true))
        → ((U : List ℕ) → Words U → length U ≡ width P → size U < f → FirstIn P N (nodes_in f P U) → (α : Choice) × First P U α × (N ≡ table_of P α))
        → (α : Choice) × First P T α × (N ≡ table_of P α)
    unfolding flat_map
    first-at f h N fi complete rec = go fi
      where
        Result : List ℕ → Type 0
        Result U = (α : Choice) × First P U α × (N ≡ table_of P α)

        at-root : S ≡ N → solved P N ≡ true → Result T
        at-root e v =
            let sv : solved P S ≡ true = ap (solved P) e ∙ v in (
              firsts P S,
              record {
                solution = solution-below P (firsts P S) p (solved-solution P wf S bS lS st sv);
                least = λ β s. inl (solved-same P wf S bS lS st sv β (settled-keeps T ln β s).fits);
              },
              sym e ∙ solved-own P wf S bS lS st sv,
            )

        -- a solution of the child b against any other solution β of the node
        against : (at : ℕ) (a : At S at) (b : ℕ) → bit (word S at) b ≡ true → ((c : ℕ) → In c (bits (word S at)) → (c ≡ b) ⊎ ((b < c) ⊎ NoneSolved P (nodes_in f P (set S at (2 ^ c)))))
            → (r : Result (set S at (2 ^ b))) → Solution P S r.0 → (β : Choice) → Solution P S β → Same P r.0 β ⊎ Before P r.0 β
        against at a b there others r sα β sβ =
            let g = goes S bS lS st at a β sβ in
            let gα = goes S bS lS st at a r.0 sα in
            let inside : at < width P = subst (λ (n : ℕ). at < n) lS a.inside in
            let le = size_le S T p in
            let pU : Below (set S at (2 ^ b)) S = child-below S at b a.inside there in
            let pα : Below (table_of P r.0) (set S at (2 ^ b)) = own_below P r.0 (set S at (2 ^ b)) (pU.same_length ∙ lS) r.1.solution.fits in
            let own-word : word (table_of P r.0) at ≡ 2 ^ gα.value = table_of-word P r.0 at inside ∙ gα.uses in
            let eα : gα.value ≡ b = pow-only b gα.value (ap (λ (w : ℕ). bit w gα.value) (sym (child-here S at b a.inside)) ∙ pα.within at gα.value (ap (λ (w : ℕ). bit w gα.value) own-word ∙ pow_self gα.value)) in
            ⊎_elim
            (λ e. r.1.least β (subst (λ (c : ℕ). Solution P (set S at (2 ^ c)) β) e g.on))
            (⊎_elim
            (λ l. inr (lower-first P wf S bS lS st r.0 β sα.fits sβ.fits at a inside gα.value g.value gα.uses g.uses (omega arith)))
            (λ n.
            let pV : Below (set S at (2 ^ g.value)) S = child-below S at g.value a.inside g.there in
            let smaller = child-size S at g.value a.inside bS g.there a.two in
            absurd (none-some P n (complete (set S at (2 ^ g.value)) (below-words pV bS) (pV.same_length ∙ lS) (omega arith) β g.on))))
            (others g.value (in_bits (word S at) g.value g.there (bS at g.value g.there)))

        by-branch : (at : ℕ) → At S at → FirstIn P N (flat_map (λ b. nodes_in f P (set S at (2 ^ b))) (bits (word S at))) → Result T
        by-branch at a fb =
            let t = first_below P (λ b. nodes_in f P (set S at (2 ^ b))) (bits (word S at)) (bits_increasing (word S at)) N fb in
            let b : ℕ = t.0 in
            let there : bit (word S at) b ≡ true = (of-bits (word S at) t.1).0 in
            let le = size_le S T p in
            let pU : Below (set S at (2 ^ b)) S = child-below S at b a.inside there in
            let smaller = child-size S at b a.inside bS there a.two in
            let r = rec (set S at (2 ^ b)) (below-words pU bS) (pU.same_length ∙ lS) (omega arith) t.2 in
            let sα : Solution P S r.0 = solution-below P r.0 pU r.1.solution in
            (r.0, record { solution = solution-below P r.0 p sα; least = λ β s. against at a b there t.3 r sα β (settled-keeps T ln β s) }, r.2)

        go : FirstIn P N (S ∷ flat_map (λ U. nodes_in f P U) (children P S)) → Result T
        go (here e v) = at-root e v
        go (later q fb) = by_every_value (every_value P S) refl
          where
            childless : children P S ≡ [] → Result T
            childless e = no-first (subst (λ (l : List (List ℕ)). FirstIn P N (flat_map (λ U. nodes_in f P U) l)) e fb)
              where
                no-first : FirstIn P N [] → Result T
                no-first x = elim x [ ]

            by_every_value : (t : Bool) → every_value P S ≡ t → Result T
            by_every_value false l = childless (children-dead P wf S bS lS st l)
            by_every_value true l =
                ⊎_elim (λ n. childless (children-none P wf S bS lS st n.0))
                (λ t. by-branch t.0 t.2
                (subst (FirstIn P N) (flat_map-map (λ U. nodes_in f P U) (λ b. set S t.0 (2 ^ b)) (bits (word S t.0)))
                (subst (λ (l : List (List ℕ)). FirstIn P N (flat_map (λ U. nodes_in f P U) l)) (children-at P wf S bS lS st t.0 t.1 l) fb)))
                (branch-cases P wf S bS lS st)

  -- ---- every solution has a solved node

  pub complete : (f : ℕ) (T : List ℕ) → Words T → length T ≡ width P → size T < f → (α : Choice) → Solution P T α → (N : List ℕ) × In N (nodes_in f P T) × (solved P N ≡ true)
  unfolding nodes_in
  complete zero T bd ln h α s = absurd (omega arith)
  complete (suc f) T bd ln h α s = complete-at T bd ln f h α s (λ U a b c d. complete f U a b c α d)

  -- ---- the first solved node is the first solution

  pub first : (f : ℕ) (T : List ℕ) → Words T → length T ≡ width P → size T < f → (N : List ℕ) → FirstIn P N (nodes_in f P T) → (α : Choice) × First P T α × (N ≡ table_of P α)
  unfolding nodes_in
  first zero T bd ln h N fi = absurd (omega arith)
  first (suc f) T bd ln h N fi = first-at T bd ln f h N fi (complete f) (λ U a b c d. first f U a b c N d)
