-- The search as a loop of visits: what holds while it goes on, how it ends, and what the whole of it says. Assumes nothing.
use mathlib.Core.Path.{◌≡◌, refl, sym, ap, ap₂, subst, ◌∙◌}
use mathlib.Core.List.{List, map}
use Prim.Native.Nat.{ℕ, suc, ◌+◌, ◌-◌, ◌*◌, ◌≤◌, ◌<◌}
use native.Mathlib.Omega.{arith}
use lib.ListN.{take, drop, replicate}
use Rattle.model.specs.Layout.{little}
use Rattle.model.specs.Reading.{pieces}
use Rattle.model.specs.Constraints.{Problem}
use Rattle.model.specs.Tree.{Search, searching, found, none, spent}
use Rattle.laws.specs.Traversal.{visit}
use Rattle.laws.proofs.CallLaws.{lendable-length}
use Rattle.laws.proofs.StackLaws.{stack_begin}
use Rattle.shortcuts.proofs.KeptLaws.{keeping_start, keeping-spent}
use Rattle.format.specs.declared.problem.Problem as accepted
use Rattle.format.specs.Problems.{the_problem, the_table}
use Rattle.format.proofs.ContentLaws.{usable-sound}
use Rattle.room.specs.Tables.{Tables}
use Rattle.search.specs.declared.Path.{Path}
use Rattle.search.specs.declared.Visited.{Visited}
use Rattle.search.specs.declared.Visited.TheVariants.{Solved, Over, On}
use Rattle.search.specs.declared.Outcome.{Outcome}
use Rattle.search.specs.declared.Outcome.TheVariants.{Found, None, Spent}
use Rattle.search.specs.Visits.{words_in, root, Standing, left_in, Visits}
use Rattle.search.specs.Outcomes.{outcome_of}
use Rattle.search.proofs.VisitLaws.{current-part, the_table-is}

-- node n is the next to visit of a search that began with the room R₀; it stands at `path` in the room R, and what is left says what the whole does
pub record Exploring (p : accepted.Problem) (budget : ℕ) (R₀ A : List ℕ) (n : ℕ) (path : Path) (R : List ℕ) : Type 0 where
  pub visited : ℕ
  pub next : n ≡ suc visited
  pub within : visited ≤ budget
  pub decisions : List ℕ
  pub standing : Standing p path R decisions
  pub beyond : drop (3 * words_in p) R ≡ drop (3 * words_in p) R₀
  pub same : visit (the_problem p) A visited (budget - visited) (left_in p R decisions) ≡ visit (the_problem p) A 0 budget (left_in p R₀ (the_table p))

pub exploring_start : (p : accepted.Problem) (budget : ℕ) (R A : List ℕ) → Standing p root R (the_table p) → Exploring p budget R A 1 root R
exploring_start p budget R A s =
    let z : budget - 0 ≡ budget = omega arith in
    record {
      visited = 0;
      next = refl;
      within = omega arith;
      decisions = the_table p;
      standing = s;
      beyond = refl;
      same = ap (λ (b : ℕ). visit (the_problem p) A 0 b (left_in p R (the_table p))) z;
    }

module _ (p : accepted.Problem) (budget : ℕ) (R₀ A : List ℕ) (n : ℕ) (path : Path) (R : List ℕ) (x : Exploring p budget R₀ A n path R) where
  abbrev P : Problem
  P = the_problem p

  abbrev F : List ℕ
  F = the_table p

  abbrev i : ℕ
  i = x.visited

  -- the outcome r is the right one, with the answer B and the room U
  abbrev Ends : Outcome → List ℕ → List ℕ → Type 0
  Ends r B U = (record { outcome = outcome_of r; table = B } ≡ visit P A 0 budget (left_in p R₀ F)) × (drop (3 * words_in p) U ≡ drop (3 * words_in p) R₀)

  -- one more node is visited
  module _ (h : n ≤ budget) (U : List ℕ) (r : Visited) (v : Visits p path R U r) where
    here : visit P A i (suc (budget - suc i)) (left_in p R x.decisions) ≡ visit P A 0 budget (left_in p R₀ F)
    here = let e : suc (budget - suc i) ≡ budget - i = omega (arith, x.next) in ap (λ (b : ℕ). visit P A i b (left_in p R x.decisions)) e ∙ x.same

    pub exploring_on : (next : Path) → r ≡ On next → Exploring p budget R₀ A (n + 1) next U
    exploring_on next e =
        let m = v.on next e x.decisions x.standing in
        record {
          visited = suc i;
          next = omega (arith, x.next);
          within = omega (arith, x.next);
          decisions = m.decisions;
          standing = m.standing;
          beyond = v.beyond ∙ x.beyond;
          same = sym (m.visits A i (budget - suc i)) ∙ here;
        }

    pub exploring_solved : r ≡ Solved → (B : List ℕ) → B ≡ take (words_in p) U → Ends (Found n) B U
    unfolding outcome_of
    exploring_solved e B c =
        let b : B ≡ _ = c ∙ current-part (words_in p) U in (
          ap₂ (λ (n : ℕ) (T : List ℕ). record { outcome = found n; table = T }) x.next b
              ∙ sym (v.solved e x.decisions x.standing A i (budget - suc i)) ∙ here,
          v.beyond ∙ x.beyond,
        )

    pub exploring_over : r ≡ Over → (B : List ℕ) → B ≡ A → Ends (None n) B U
    unfolding outcome_of
    exploring_over e B c = (
      ap₂ (λ (n : ℕ) (T : List ℕ). record { outcome = none n; table = T }) x.next c
          ∙ sym (v.over e x.decisions x.standing A i (budget - suc i)) ∙ here,
      v.beyond ∙ x.beyond,
    )

  -- as many nodes as the budget are visited
  pub exploring_spent : budget < n → (B : List ℕ) → B ≡ A → Ends (Spent budget) B R
  unfolding outcome_of
  exploring_spent h B c =
      let sound = usable-sound p.file.now p.parts p.usable p.bytes in
      let z : 0 ≡ budget - i = omega (arith, x.next) in
      let all : budget ≡ i = omega (arith, x.next, x.within) in
      let s = keeping-spent P sound.well_formed F sound.words (lendable-length P F sound.own-table) x.standing.keeping A i in (
        ap₂ (λ (n : ℕ) (T : List ℕ). record { outcome = spent n; table = T }) all c ∙ sym s
            ∙ ap (λ (b : ℕ). visit P A i b (left_in p R x.decisions)) z ∙ x.same,
        x.beyond,
      )

-- ---- the whole search

module _ (p : accepted.Problem) (R R₁ : List ℕ)
    (started : Tables (words_in p) R₁ (map little (pieces (words_in p) 8 (take p.parts.constraints_at p.file.now))) (map little (pieces (words_in p) 8 (take p.parts.constraints_at p.file.now)))
    (replicate (words_in p) 0) (drop (3 * words_in p) R)) where
  begun : Tables (words_in p) R₁ (the_table p) (the_table p) (replicate (words_in p) 0) (drop (3 * words_in p) R)
  begun = subst (λ (F : List ℕ). Tables (words_in p) R₁ F F (replicate (words_in p) 0) (drop (3 * words_in p) R)) (sym (the_table-is p)) started

  pub search-standing : Standing p root R₁ (the_table p)
  search-standing =
      let long = lendable-length (the_problem p) (the_table p) (usable-sound p.file.now p.parts p.usable p.bytes).own-table in
      record {
        keeping = rw (begun.current, begun.kept, begun.waiting) (keeping_start (the_problem p) (the_table p) (the_table p) (words_in p) long);
        begun = tt;
        inside = omega arith;
      }

  pub search-right : (budget : ℕ) (A : List ℕ) (r : Search) → r ≡ visit (the_problem p) A 0 budget (left_in p R₁ (the_table p))
      → r ≡ searching (the_problem p) (the_table p) budget A
  search-right budget A r e = e ∙ rw (begun.current, begun.waiting) (stack_begin (the_problem p) (the_table p) A budget)
