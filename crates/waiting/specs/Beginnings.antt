-- How a table is made ready to be settled, and which constraints wait then. Assumes nothing.
use Rattle.std.specs.Prelude.{Option, Some, None, IfSome, ◌≡◌, Bool, true, false, List, ℕ, ◌*◌, ◌/◌, ◌<◌, ◌≤◌, length}
use Rattle.model.specs.Words.{bit, word, Words}
use Rattle.model.specs.Domains.{owner}
use Rattle.model.specs.Constraints.{Problem, always, width}
use Rattle.model.specs.Support.{narrowed}
use Rattle.model.specs.Rounds.{every_value, settled}
use Rattle.shortcuts.specs.Waiting.{Trimming, Child}
use Rattle.layout.specs.declared.Parts.{Parts}
use Rattle.index.specs.Index.{position}

-- what is known of a table before it is settled: it is a child at this word, or, where there is none, nothing
abbrev pub ChildAt : Problem → List ℕ → Option ℕ → Type 0
ChildAt P T from = IfSome from (λ k. (k < width P) × Child P T k)

-- every string of T, of s, was trimmed; or one has no value, and then a variable has none when T is settled
pub record Trims (s : ℕ) (T U : List ℕ) (all : Bool) : Type 0 where
  pub same_length : length U ≡ length T
  pub done : all ≡ true → (P : Problem) → s ≡ P.strings → length T ≡ width P → Words T → Trimming P T U s
  pub dead : all ≡ false → (P : Problem) → s ≡ P.strings → length T ≡ width P → Words T → every_value P (settled P T) ≡ false

-- of a child at a word the string of that word was trimmed, and of any table, where there is none, every string
pub record Readies (s : ℕ) (from : Option ℕ) (T U : List ℕ) (all : Bool) : Type 0 where
  pub same_length : length U ≡ length T
  pub whole : all ≡ true → from ≡ None → (P : Problem) → s ≡ P.strings → length T ≡ width P → Words T → Trimming P T U s
  pub text : all ≡ true → (k : ℕ) → from ≡ Some k → k < 64 * s → (P : Problem) → s ≡ P.strings → length T ≡ width P → U ≡ narrowed P (always (k / 64)) T
  pub number : all ≡ true → (k : ℕ) → from ≡ Some k → 64 * s ≤ k → U ≡ T
  pub dead : all ≡ false → (P : Problem) → s ≡ P.strings → length T ≡ width P → Words T → every_value P (settled P T) ≡ false

-- the constraints that name the variable of that word wait, or, where there is none, all
pub record Wakes (p : Parts) (ix : List ℕ) (from : Option ℕ) (w : ℕ) : Type 0 where
  pub all : from ≡ None → ((j : ℕ) → bit w j ≡ true → j < p.c) × ((j : ℕ) → j < p.c → bit w j ≡ true)
  pub named : (k : ℕ) → from ≡ Some k → w ≡ word ix (position p.s (owner p.s k))

-- each of the s strings has a length, or one has none
pub record Lengths (s : ℕ) (T : List ℕ) (all : Bool) : Type 0 where
  pub each : all ≡ true → (x : ℕ) → x < s → 0 < word T (64 * x)
  pub none : all ≡ false → (x : ℕ) × (x < s) × (word T (64 * x) ≡ 0)
