-- A record of the list is the file's constraint at its place: what its step asks, and what the step then says; all of them, one after the other; and which
-- constraint step j is. Assumes nothing.
use mathlib.Core.Path.{◌≡◌, sym, ap, subst, ◌∙◌}
use mathlib.Core.Bool.{true}
use mathlib.Core.List.{List}
use Prim.Native.Nat.{ℕ, ◌+◌, ◌-◌, ◌*◌, ◌≤◌, ◌<◌}
use native.Mathlib.Omega.{arith}
use lib.ListN.{length, get_or, take}
use lib.Seq.{get_or-take, length-take-le}
use borrow.Author.Tests.{lt-ltb, le-ltb}
use Rattle.model.specs.Constraints as model
use Rattle.model.specs.Constraints.{always, width}
use Rattle.model.specs.Support.{narrowed}
use Rattle.model.specs.Rounds.{run}
use Rattle.model.specs.Operations.{step_at}
use Rattle.laws.specs.Inclusion.{In}
use Rattle.laws.specs.Lent.{lendable}
use Rattle.laws.proofs.ListLaws.{get_or_in}
use Rattle.laws.proofs.CallLaws.{lendable-length}
use Rattle.records.specs.declared.Record.{Record}
use Rattle.records.specs.Records.{constraint_of}
use Rattle.format.specs.declared.problem.Problem.{Problem}
use Rattle.format.specs.Problems.{the_problem}
use Rattle.format.proofs.ContentLaws.{Counts, usable-counts}
use Rattle.steps.specs.Step.{Step}
use Rattle.list.specs.Listed.{blank, Listed}
use Rattle.list.proofs.StepWalkLaws.{Walked, walk_step, walk_ran}

module _ (p : Problem) where
  abbrev P : model.Problem
  P = the_problem p

  counts : Counts p.file.now p.parts
  counts = usable-counts p.file.now p.parts p.usable

  -- ---- constraint j of the list

  module _ (rs : List Record) (l : Listed p rs) (j : ℕ) (less : j < p.parts.c) (r : Record) (at : r ≡ get_or rs j blank) where
    is : constraint_of r ≡ get_or P.constraints j (always 0)
    is = ap constraint_of at ∙ l.at j less

    pub listed-there : In (constraint_of r) P.constraints
    listed-there = subst (λ (c : model.Constraint). In c P.constraints) (sym is) (get_or_in P.constraints j (always 0) (omega (arith, counts.constraints)))

    pub listed_step : (T U : List ℕ) (n : ℕ) → Step P (constraint_of r) T U n → Step P (get_or P.constraints j (always 0)) T U n
    listed_step T U n s = subst (λ (c : model.Constraint). Step P c T U n) is s

    -- the next one after the first j
    pub walks_next : (T X U : List ℕ) → U ≡ narrowed P (constraint_of r) X → Walked P P.constraints T j X → Walked P P.constraints T (j + 1) U
    walks_next T X U s w =
        walk_step P P.constraints T j X U (omega (arith, counts.constraints)) (s ∙ ap (λ (c : model.Constraint). narrowed P c X) is) w

  -- ---- all of them, one after the other, as they stand in front of the list

  module _ (rs : List Record) (l : Listed p rs) where
    front-length : length (take p.parts.c rs) ≡ p.parts.c
    front-length = length-take-le p.parts.c rs l.long

    pub front-less : (j : ℕ) → j < length (take p.parts.c rs) → j < p.parts.c
    front-less j h = omega (arith, front-length)

    pub front-at : (j : ℕ) → j < length (take p.parts.c rs) → get_or (take p.parts.c rs) j blank ≡ get_or rs j blank
    front-at j h = get_or-take p.parts.c rs j blank (front-less j h)

    pub listed_ran : (T X : List ℕ) (j : ℕ) → length (take p.parts.c rs) ≤ j → Walked P P.constraints T j X → X ≡ run P P.constraints T
    listed_ran T X j h w = walk_ran P P.constraints T j X (omega (arith, counts.constraints, front-length)) w

  -- ---- step j

  module _ (T : List ℕ) (lent : lendable P T ≡ true) (j : ℕ) (less : j < p.parts.c + p.parts.s) where
    pub step-constraint : j < p.parts.c → {U : List ℕ} {n : ℕ} → Step P (get_or P.constraints j (always 0)) T U n → Step P (step_at P j) T U n
    unfolding step_at
    step-constraint h s = rw (lt-ltb j (length P.constraints) (omega (arith, counts.constraints))) s

    module _ (past : p.parts.c ≤ j) where
      string-there : j - p.parts.c < P.strings
      string-there = omega (arith, counts.strings)

      pub trim-inside : 64 * (j - p.parts.c) + 64 ≤ length T
      trim-inside = let l = lendable-length P T lent in let h = string-there in omega arith

      pub step-trim : {U : List ℕ} {n : ℕ} → ((Q : model.Problem) → length T ≡ width Q → j - p.parts.c < Q.strings → Step Q (always (j - p.parts.c)) T U n)
          → Step P (step_at P j) T U n
      unfolding step_at
      step-trim s =
          let n = counts.constraints in
          rw (le-ltb j (length P.constraints) (omega arith), n) (s P (lendable-length P T lent) string-there)
