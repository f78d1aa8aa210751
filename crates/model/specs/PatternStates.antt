-- The states of a pattern: sets of letter occurrences (document 02, ticket 1). A set of places is a word; its bits are the places. Assumes nothing.
use Rattle.std.specs.Prelude.{Bool, true, false, ◌&&◌, ◌||◌, List, [], ◌∷◌, map, ℕ, ◌^◌, eqb}
use Rattle.std.specs.Int.Bits.{bit_or}
use Rattle.model.specs.Lists.{select, any}
use Rattle.model.specs.Words.{bit, bits, union}
use Rattle.model.specs.Pattern.{Pattern, empty, letter, either, both, many}

-- the set, where the test passes
unfoldable pub when : Bool → ℕ → ℕ
when true w = w
when false w = 0

-- the empty string is in the language
unfoldable pub nullable : Pattern → Bool
nullable empty = true
nullable (letter p) = false
nullable (either e f) = nullable e || nullable f
nullable (both e f) = nullable e && nullable f
nullable (many e) = true

-- the letters that a reading may pass first
unfoldable pub first : Pattern → ℕ
first empty = 0
first (letter p) = 2 ^ p
first (either e f) = bit_or (first e) (first f)
first (both e f) = bit_or (first e) (when (nullable e) (first f))
first (many e) = first e

-- the letters that a reading may pass last
unfoldable pub last : Pattern → ℕ
last empty = 0
last (letter p) = 2 ^ p
last (either e f) = bit_or (last e) (last f)
last (both e f) = bit_or (when (nullable f) (last e)) (last f)
last (many e) = last e

-- the letters that a reading may pass right after the one at place p
unfoldable pub follow : Pattern → ℕ → ℕ
follow empty p = 0
follow (letter q) p = 0
follow (either e f) p = bit_or (follow e p) (follow f p)
follow (both e f) p = bit_or (bit_or (follow e p) (follow f p)) (when (bit (last e) p) (first f))
follow (many e) p = bit_or (follow e p) (when (bit (last e) p) (first e))

-- "State 0 is the start, before any letter. Every other state is the set of letter occurrences that a reading may have just passed"
pub data State : Type 0 where
  start : State
  passed : ℕ → State

-- the places of the set whose letter has the symbol
unfoldable pub having : (ℕ → ℕ) → ℕ → ℕ → ℕ
having symbol a w = union (map (λ p. 2 ^ p) (select (λ p. eqb (symbol p) a) (bits w)))

-- the letters that a reading may pass next
unfoldable pub ahead : Pattern → State → ℕ
ahead e start = first e
ahead e (passed w) = union (map (follow e) (bits w))

-- the state after one more symbol
unfoldable pub advance : (ℕ → ℕ) → Pattern → State → ℕ → State
advance symbol e x a = passed (having symbol a (ahead e x))

-- the state after these symbols
unfoldable pub state_after : (ℕ → ℕ) → Pattern → State → List ℕ → State
state_after symbol e x [] = x
state_after symbol e x (a ∷ w) = state_after symbol e (advance symbol e x a) w

-- a reading may end in this state
unfoldable pub final : Pattern → State → Bool
final e start = nullable e
final e (passed w) = any (bit (last e)) (bits w)
