-- Settling by constraints that wait: a constraint that does not wait strikes nothing, so the table is settled when none waits. Assumes nothing.
use Rattle.std.specs.Prelude.{◌≡◌, Bool, true, false, List, ℕ, ◌^◌, ◌<◌, length, get_or, set}
use Rattle.model.specs.Words.{word}
use Rattle.model.specs.Domains.{Variable, owner}
use Rattle.model.specs.Constraints.{Problem, Constraint, always, width}
use Rattle.model.specs.Support.{touches, narrowed}
use Rattle.model.specs.Rounds.{every_value, settled}
use Rattle.laws.specs.Inclusion.{Below}
use Rattle.laws.specs.Lent.{Stable}

-- no word of variable v differs between T and U
abbrev pub Unchanged : Problem → List ℕ → List ℕ → Variable → Type 0
Unchanged P T U v = (i : ℕ) → owner P.strings i ≡ v → word T i ≡ word U i

-- no word of the variables that d names differs between T and U
abbrev pub Apart : Problem → Constraint → List ℕ → List ℕ → Type 0
Apart P d T U = (i : ℕ) → touches P d i ≡ true → word T i ≡ word U i

-- of these constraints, by their numbers, those that do not wait strike nothing
pub record Resting (P : Problem) (cs : List Constraint) (waits : ℕ → Bool) (U : List ℕ) : Type 0 where
  pub rests : (j : ℕ) → j < length cs → waits j ≡ false → narrowed P (get_or cs j (always 0)) U ≡ U

-- U lies between T and what T settles to; its strings are trimmed, and a constraint may strike only where it waits
pub record Running (P : Problem) (T U : List ℕ) (waits : ℕ → Bool) : Type 0 where
  pub under : Below U T
  pub above : Below (settled P T) U
  pub trimmed : (x : ℕ) → x < P.strings → narrowed P (always x) U ≡ U
  pub resting : Resting P P.constraints waits U

-- U lies between T and what T settles to; its strings before x are trimmed
pub record Trimming (P : Problem) (T U : List ℕ) (x : ℕ) : Type 0 where
  pub under : Below U T
  pub above : Below (settled P T) U
  pub trimmed : (y : ℕ) → y < x → y < P.strings → narrowed P (always y) U ≡ U

-- T is a settled table with one value left in word k
pub record Child (P : Problem) (T : List ℕ) (k : ℕ) : Type 0 where
  pub node : List ℕ
  pub value : ℕ
  pub long : length node ≡ width P
  pub stable : Stable P node
  pub is : T ≡ set node k (2 ^ value)

-- what is known of a table before it is settled: it is a child at word k, or, where there is no such word, nothing
abbrev pub Begun : Problem → List ℕ → ℕ → Type 0
Begun P T k = k < width P → Child P T k

-- a settling of T that may stop early left U, and says r: whether every variable has a value in the settled table, which U is where each has one
pub record Early (P : Problem) (T U : List ℕ) (r : Bool) : Type 0 where
  pub same_length : length U ≡ length T
  pub table : r ≡ true → U ≡ settled P T
  pub says : r ≡ every_value P (settled P T)
