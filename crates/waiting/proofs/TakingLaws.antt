-- One turn of a run on a file: the constraint that is taken is the file's, and either answer of its step carries the run on or ends it. Assumes nothing.
use Rattle.std.specs.Prelude.{Some, None}
use mathlib.Core.Path.{◌≡◌, sym, subst}
use mathlib.Core.Bool.{true, false}
use mathlib.Core.List.{List}
use Prim.Native.Nat.{ℕ, ◌-◌, ◌^◌, ◌≤◌, ◌<◌}
use native.Mathlib.Omega.{arith}
use lib.Bits.{bit_or}
use lib.ListN.{length}
use Rattle.model.specs.Words.{bit}
use Rattle.model.specs.Constraints.{Problem}
use Rattle.model.specs.Solutions.{WellFormed}
use Rattle.laws.proofs.WordLaws.{bit_le}
use Rattle.format.specs.declared.problem.Problem as accepted
use Rattle.format.specs.Problems.{the_problem}
use Rattle.format.proofs.ContentLaws.{usable-counts, usable-sound}
use Rattle.waiting.specs.Turns.{Turned, Ends}
use Rattle.waiting.proofs.RunLaws.{Went, load, went_woken, went_dead, went_done}

module _ (p : accepted.Problem) {U : List ℕ} {start : ℕ} {W : List ℕ} {w : ℕ} (g : Went (the_problem p) U start W w) where
  abbrev P : Problem
  P = the_problem p

  count : length P.constraints ≡ p.parts.c
  count = (usable-counts p.file.now p.parts p.usable).constraints

  most : length P.constraints ≤ 64
  most = omega (arith, p.usable.fits.constraints-most, count)

  formed : WellFormed P
  formed = (usable-sound p.file.now p.parts p.usable p.bytes).well_formed

  pub taking_done : w ≡ 0 → Ends P U start W true
  taking_done e = went_done P U start formed most g e

  -- constraint j is taken, and b is its bit
  module _ (j b : ℕ) (here : bit w j ≡ true) (is : b ≡ 2 ^ j) where
    pub taking_bit : b ≤ w
    taking_bit = subst (λ (y : ℕ). y ≤ w) (sym is) (bit_le w j here)

    pub taking_inside : j < p.parts.c
    taking_inside = omega (arith, g.inside j here, count)

    pub taking_woken : {Z : List ℕ} {more : ℕ} → Turned P j W Z (Some more) → Went P U start Z (bit_or (w - b) more) × (load Z (bit_or (w - b) more) < load W w)
    taking_woken {Z} {more} t = rw is (went_woken P U start formed most g j here more t)

    pub taking_dead : {Z : List ℕ} → Turned P j W Z None → Ends P U start Z false
    taking_dead t = went_dead P U start formed most g j here t
