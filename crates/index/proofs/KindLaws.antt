-- The variables that each kind of record names, and what a function that looks at the kind may take from that. Assumes nothing.
use mathlib.Core.Path.{◌≡◌, subst}
use mathlib.Core.List.Memᴰ
use Prim.Native.Nat.{ℕ, ◌≤◌, ◌<◌}
use native.Mathlib.Omega.{arith}
use Rattle.model.specs.Domains.{Variable, str, num}
use Rattle.model.specs.Constraints.{Problem, variables}
use Rattle.model.specs.Solutions.{InRange, WellFormed}
use Rattle.laws.specs.Inclusion.{In}
use Rattle.records.specs.declared.Record.{Record}
use Rattle.records.specs.Records.{constraint_of}
use Rattle.index.specs.Index.{position}
use Rattle.index.specs.Joining.{named, Fits}
use Rattle.index.specs.declared.positions.Positions.{Positions}
use Rattle.index.specs.Standing.{listed, Standing}

-- ---- a record's positions are in the index

in_index : (P : Problem) → P.strings ≤ 16 → P.numbers ≤ 16 → (v : Variable) → InRange P v → position P.strings v < 32
unfolding position
in_index P s t (str x) h = omega arith
in_index P s t (num n) h = omega arith

pub range_fits : (P : Problem) (r : Record) → P.strings ≤ 16 → P.numbers ≤ 16
    → ((v : Variable) → In v (variables (constraint_of r)) → InRange P v) → Fits P.strings r
range_fits P r s t h = record { inside = λ v m. in_index P s t v (h v m) }

-- those of a problem's constraint
pub formed-fits : (P : Problem) (s : ℕ) (r : Record) → WellFormed P → P.strings ≡ s → s ≤ 16 → P.numbers ≤ 16
    → In (constraint_of r) P.constraints → Fits s r
formed-fits P s r w e h t m =
    let l : P.strings ≤ 16 = omega arith in
    subst (λ (n : ℕ). Fits n r) e (range_fits P r l t (w (constraint_of r) m))

-- a list of where its variables stand has no other positions
pub standing-inside : (s : ℕ) (r : Record) (m : Positions) → Fits s r → Standing s r m → (i : ℕ) → In i (listed m) → i < 32
standing-inside s r m f h i k =
    let u = Memᴰ.of_map (position s) (named r) (subst (In i) h.are k) in
    subst (λ (j : ℕ). j < 32) u.2 (f.inside u.0 u.1)
