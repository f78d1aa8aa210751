-- What the readers answer, held to the definition's pattern. Assumes nothing.
use Rattle.std.specs.Prelude.{◌≡◌, ◌&&◌, ◌||◌, List, ℕ, ◌<◌, ◌≤◌, Option, Some, None, length, get_or}
use Rattle.std.specs.Int.Bits.{bit_or}
use Rattle.model.specs.Words.{bit}
use Rattle.model.specs.Pattern.{Pattern}
use Rattle.model.specs.PatternText.{Parsed, bad, parsed, starred}
use Rattle.model.specs.PatternStates.{when, nullable, first, last, follow}
use Rattle.parser.specs.declared.Part.{Part}

-- one of two parts, and one part after the other
abbrev pub EitherOf : Part → Part → Part → Type 0
EitherOf a b r = (r.end ≡ b.end) × (r.nullable ≡ (a.nullable || b.nullable)) × (r.first ≡ bit_or a.first b.first) × (r.last ≡ bit_or a.last b.last)

abbrev pub BothOf : Part → Part → Part → Type 0
BothOf a b r =
    (r.end ≡ b.end)
    × (r.nullable ≡ (a.nullable && b.nullable))
    × (r.first ≡ bit_or a.first (when a.nullable b.first))
    × (r.last ≡ bit_or (when b.nullable a.last) b.last)

-- each letter of `lasts` is followed by those of `firsts`
pub record Linked (F : List ℕ) (lasts firsts : ℕ) (G : List ℕ) : Type 0 where
  pub size : length G ≡ length F
  pub each : (p : ℕ) → p < 64 → get_or G p 0 ≡ bit_or (get_or F p 0) (when (bit lasts p) firsts)

-- a part is what the definition says of a pattern that ends at this place
pub record Holds (e : Pattern) (q : ℕ) (r : Part) : Type 0 where
  pub ends : r.end ≡ q
  pub empties : r.nullable ≡ nullable e
  pub firsts : r.first ≡ first e
  pub lasts : r.last ≡ last e

-- the array got, at each place, the letters that follow it in the pattern
pub record Followed (F : List ℕ) (e : Pattern) (G : List ℕ) : Type 0 where
  pub size : length G ≡ length F
  pub each : (p : ℕ) → p < 64 → get_or G p 0 ≡ bit_or (get_or F p 0) (follow e p)

-- the readers' answer is the definition's: the same refusal, or the pattern's sets
unfoldable pub Says : List ℕ → List ℕ → Parsed → Option Part → Type 0
Says F G bad None = Unit
Says F G bad (Some r) = ⊥
Says F G (parsed e q) None = ⊥
Says F G (parsed e q) (Some r) = Holds e q r × Followed F e G

-- an item that ends at place p, with the `*` that may follow it
pub record Starred (s : List ℕ) (p : ℕ) (a r : Part) (F G : List ℕ) : Type 0 where
  pub says : (e : Pattern) (q : ℕ) (B : List ℕ) → Holds e q a → Followed B e F → Says B G (starred s e p) (Some r)
  pub low : p ≤ r.end
  pub high : r.end ≤ length s

-- a reading's end lies from lo to hi
abbrev pub Within : ℕ → ℕ → Option Part → Type 0
Within lo hi (Some r) = (lo ≤ r.end) × (r.end ≤ hi)
Within lo hi None = Unit
