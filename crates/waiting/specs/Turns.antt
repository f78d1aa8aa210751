-- What waits as the bits of a word, and what a step, and all steps, make of it. Assumes nothing.
use Rattle.std.specs.Prelude.{Option, MatchOption, ◌≡◌, ◌≢◌, ◌⊎◌, Bool, true, false, List, ℕ, ◌<◌, length, get_or}
use Rattle.model.specs.Words.{bit, Words, size}
use Rattle.model.specs.Domains.{row}
use Rattle.model.specs.Constraints.{Problem, always, width}
use Rattle.model.specs.Support.{narrowed}
use Rattle.model.specs.Rounds.{every_value, settled}
use Rattle.shortcuts.specs.Waiting.{Apart, Running}
use Rattle.inplace.specs.InTable.{Tidy}

-- only constraints of the problem wait
abbrev pub Inside : Problem → ℕ → Type 0
Inside P w = (j : ℕ) → bit w j ≡ true → j < length P.constraints

-- the constraints of w wait in U, on the way from T to what it settles to
pub record Pending (P : Problem) (T U : List ℕ) (w : ℕ) : Type 0 where
  pub running : Running P T U (bit w)
  pub inside : Inside P w

-- a constraint that is neither j nor in w names no variable of which a word differs between T and U
pub record Enough (P : Problem) (j : ℕ) (T U : List ℕ) (w : ℕ) : Type 0 where
  pub apart : (d : ℕ) → d < length P.constraints → d ≢ j → bit w d ≡ false → Apart P (get_or P.constraints d (always 0)) T U
  pub inside : Inside P w

-- every row is tidy
abbrev pub TidyRows : Problem → List ℕ → Type 0
TidyRows P T = (x : ℕ) → x < P.strings → Tidy (row T x)

-- constraint j made U of T, and w waits because of it: it struck nothing, and nothing waits, or it struck
pub record Woken (P : Problem) (j : ℕ) (T U : List ℕ) (w : ℕ) : Type 0 where
  pub table : U ≡ narrowed P (get_or P.constraints j (always 0)) T
  pub struck : ((U ≡ T) × (w ≡ 0)) ⊎ (size U < size T)
  pub tidy : TidyRows P U
  pub enough : Enough P j T U w

-- constraint j made U of T, and r says what that leads to: what waits because of it, or none where a variable has no value
pub record Turned (P : Problem) (j : ℕ) (T U : List ℕ) (r : Option ℕ) : Type 0 where
  pub same_length : length U ≡ length T
  pub leads : MatchOption r (every_value P (narrowed P (get_or P.constraints j (always 0)) T) ≡ false) (λ w. Woken P j T U w)

-- a run from U, with w waiting, left W: where r is true it is settled, and else a variable has no value when it is
pub record Ends (P : Problem) (U : List ℕ) (w : ℕ) (W : List ℕ) (r : Bool) : Type 0 where
  pub same_length : length W ≡ length U
  pub settles : (T : List ℕ) → Words T → length T ≡ width P → Pending P T U w → r ≡ true → W ≡ settled P T
  pub dies : (T : List ℕ) → Words T → length T ≡ width P → Pending P T U w → r ≡ false → every_value P (settled P T) ≡ false
