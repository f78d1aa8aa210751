-- The list as it is filled, constraint by constraint. Assumes nothing.
use mathlib.Core.Path.{◌≡◌, ap, ◌∙◌}
use mathlib.Core.Logic.{⊎_elim}
use mathlib.Core.List.{List}
use Prim.Native.Nat.{ℕ, ◌+◌, ◌≤◌, ◌<◌}
use native.Mathlib.Nat.{eq-or-lt_of_le}
use native.Mathlib.Omega.{arith}
use lib.ListN.{length, get_or, set, length-set}
use lib.Seq.{get_or-set_same, get_or-set_other}
use Rattle.model.specs.Constraints.{always}
use Rattle.records.specs.declared.Record.{Record}
use Rattle.records.specs.Records.{constraint_of}
use Rattle.format.specs.declared.problem.Problem.{Problem}
use Rattle.format.specs.Problems.{the_problem}
use Rattle.list.specs.Listed.{blank, Listed}

-- r is constraint j of the file
abbrev pub Stands : Problem → ℕ → Record → Type 0
Stands p j r = constraint_of r ≡ get_or (the_problem p).constraints j (always 0)

-- the first j of 64 are the file's
pub record Copied (p : Problem) (j : ℕ) (rs : List Record) : Type 0 where
  pub size : length rs ≡ 64
  pub done : (i : ℕ) → i < j → Stands p i (get_or rs i blank)

pub copied_first : (p : Problem) (rs : List Record) → length rs ≡ 64 → Copied p 0 rs
copied_first p rs e = record { size = e; done = λ i h. absurd (omega arith) }

pub copied_next : (p : Problem) (j : ℕ) (rs : List Record) (r : Record) → j < 64 → Stands p j r → Copied p j rs → Copied p (j + 1) (set rs j r)
copied_next p j rs r h is t = record {
  size = length-set rs j r ∙ t.size;
  done = λ i l. ⊎_elim
      (λ (q : i ≡ j). rw q (ap constraint_of (get_or-set_same rs j r blank (rw t.size h)) ∙ is))
      (λ (g : i < j). ap constraint_of (get_or-set_other rs j i r blank (omega arith)) ∙ t.done i g)
      (eq-or-lt_of_le (omega arith));
}

pub copied_listed : (p : Problem) (rs : List Record) (j : ℕ) → p.parts.c ≤ j → Copied p j rs → Listed p rs
copied_listed p rs j e t = record {
  long = omega (arith, p.usable.fits.constraints-most, t.size);
  at = λ i h. t.done i (omega arith);
}
