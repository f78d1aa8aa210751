-- What one step makes of a table: on any table with the bits that it strikes, and in place on tidy rows. Assumes nothing.
use Rattle.std.specs.Prelude.{Option, ◌≡◌, ◌≢◌, ◌⊎◌, Bool, true, false, cond, List, map, ℕ, ◌-◌, ◌<◌, length, get_or, take, drop}
use Rattle.model.specs.Lists.{upto}
use Rattle.model.specs.Words.{word}
use Rattle.model.specs.Domains.{Variable, str, row}
use Rattle.model.specs.Constraints.{Problem, Constraint, variables}
use Rattle.model.specs.Support.{touches, narrowed, struck}
use Rattle.laws.specs.Inclusion.{In}
use Rattle.shortcuts.specs.Waiting.{Unchanged}
use Rattle.automata.specs.Kinds.{AllKinds}
use Rattle.format.specs.declared.problem.Problem as accepted
use Rattle.inplace.specs.declared.Changed.{Changed}
use Rattle.inplace.specs.InTable.{Tidy}
use Rattle.inplace.specs.InPlace.{left, flag}

-- the step for constraint c makes U of T, and strikes n bits
pub record Step (P : Problem) (c : Constraint) (T U : List ℕ) (n : ℕ) : Type 0 where
  pub table : U ≡ narrowed P c T
  pub count : n ≡ struck T U

-- the rows that a constraint names are tidy
abbrev pub TidyIn : Constraint → List ℕ → Type 0
TidyIn c T = (x : ℕ) → In (str x) (variables c) → Tidy (row T x)

-- T with no bit of the variables that c names
unfoldable pub cleared : Problem → Constraint → List ℕ → List ℕ
cleared P c T = map (λ k. cond (touches P c k) 0 (word T k)) (upto (length T))

-- The step for constraint c, in place, made U of T. Where a choice is left the table is narrowed and its rows are tidy again; a variable whose flag is not set is as
-- it was, and a flag that is set says that the table differs. Where none is left, the table is narrowed once the variables of c are cleared.
pub record Narrows (P : Problem) (c : Constraint) (T U : List ℕ) (n : Option Changed) : Type 0 where
  pub size : length U ≡ length T
  pub others : (k : ℕ) → touches P c k ≡ false → word U k ≡ word T k
  pub table : left n ≡ true → U ≡ narrowed P c T
  pub tidy : left n ≡ true → TidyIn c U
  pub unchanged : left n ≡ true → (i : ℕ) (v : Variable) → i < length (variables c) → get_or (variables c) i (str 0) ≡ v → flag i n ≡ false → Unchanged P T U v
  pub changed : left n ≡ true → (i : ℕ) → flag i n ≡ true → U ≢ T
  pub none : left n ≡ false → cleared P c U ≡ narrowed P c T

-- A step for c on any table left U, which is narrowed where a choice is left, and else once the variables of c are cleared.
pub record Leaves (P : Problem) (c : Constraint) (T U : List ℕ) (left : Bool) : Type 0 where
  pub size : length U ≡ length T
  pub done : left ≡ true → U ≡ narrowed P c T
  pub none : left ≡ false → cleared P c U ≡ narrowed P c T

-- the bytes of the automata of a file
abbrev pub automata_of : accepted.Problem → List ℕ
automata_of p = take (p.parts.end - p.parts.automata_at) (drop p.parts.automata_at p.file.now)

-- the kinds of these, 65 words for each
pub record AllKindsIn (p : accepted.Problem) (ks : List ℕ) : Type 0 where
  pub size : length ks ≡ 520
  pub all : AllKinds p.parts.k p.parts.d (automata_of p) ks

-- these, or no words at all
abbrev pub KindsIn : accepted.Problem → List ℕ → Type 0
KindsIn p ks = (length ks ≡ 0) ⊎ AllKindsIn p ks
