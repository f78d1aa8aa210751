-- What is made, and known, of the strings that a step names. Assumes nothing.
use Rattle.std.specs.Prelude.{◌≡◌, ◌≢◌, Bool, true, false, List, ◌++◌, map, ℕ, ◌*◌, ◌<◌, length}
use Rattle.model.specs.Words.{bit, word, Words}
use Rattle.model.specs.Domains.{Variable, str}
use Rattle.model.specs.Constraints.{Problem, Constraint, always, variables, width}
use Rattle.model.specs.Solutions.{InRange}
use Rattle.model.specs.Support.{narrowed}
use Rattle.laws.specs.Inclusion.{In, Below, Within}
use Rattle.striking.specs.Strikes.{TrimmedIn}

-- a table of P in which the strings of w are trimmed
pub record Known (P : Problem) (w : ℕ) (T : List ℕ) : Type 0 where
  pub long : length T ≡ width P
  pub words : Words T
  pub trimmed : TrimmedIn P w T

-- Strings xs were trimmed, which made U of T; v is what is known then, where w was known before. What names these strings narrows the table to the same as before.
pub record Trims (P : Problem) (xs T : List ℕ) (w : ℕ) (U : List ℕ) (changed : Bool) (v : ℕ) : Type 0 where
  pub below : Below U T
  pub same : (c : Constraint) → ((u : Variable) → In u (variables c) → InRange P u) → ((x : ℕ) → In x xs → In (str x) (variables c)) → narrowed P c U ≡ narrowed P c T
  pub known : TrimmedIn P v U
  pub kept : Within w v
  pub all : (x : ℕ) → In x xs → bit v x ≡ true
  pub none : changed ≡ false → U ≡ T
  pub some : changed ≡ true → U ≢ T

-- the same for every problem that the table fits
pub record Trimming (xs T : List ℕ) (w : ℕ) (U : List ℕ) (changed : Bool) (v : ℕ) : Type 0 where
  pub trims : (P : Problem) → Known P w T → ((x : ℕ) → In x xs → x < P.strings) → Trims P xs T w U changed v

-- trimming a string that c names strikes nothing
abbrev pub TrimmedOf : Problem → Constraint → List ℕ → Type 0
TrimmedOf P c T = (x : ℕ) → In (str x) (variables c) → narrowed P (always x) T ≡ T

-- each of the strings xs has a length, or one has none
pub record Lengths (xs T : List ℕ) (all : Bool) : Type 0 where
  pub each : all ≡ true → (x : ℕ) → In x xs → 0 < word T (64 * x)
  pub none : all ≡ false → (x : ℕ) × In x xs × (word T (64 * x) ≡ 0)

-- the words of lengths of these strings, and the words of numbers
abbrev pub firsts : List ℕ → List ℕ → List ℕ
firsts xs is = map (λ x. 64 * x) xs ++ is

-- one of these words has a bit, or none has
pub record Holds (is T : List ℕ) (some : Bool) : Type 0 where
  pub none : some ≡ false → (i : ℕ) → In i is → word T i ≡ 0
  pub one : some ≡ true → (i : ℕ) × In i is × (word T i ≢ 0)
