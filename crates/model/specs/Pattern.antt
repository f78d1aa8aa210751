-- A pattern, and the strings that it stands for (document 02, ticket 1). A letter stands in it by its place in the text: "letter occurrences" are places, and
-- equal letters at two places are two occurrences. Assumes nothing.
use Rattle.std.specs.Prelude.{◌≡◌, ◌⊎◌, List, [], ◌∷◌, ◌++◌, ℕ}

-- an empty branch, a letter, one of two branches, two items side by side, an item with `*`
pub data Pattern : Type 0 where
  empty : Pattern
  letter : ℕ → Pattern
  either both : Pattern → Pattern → Pattern
  many : Pattern → Pattern

-- strings of a language one after another, any number of them
pub data Repeated (L : List ℕ → Type 0) : List ℕ → Type 0 where
  stop : {w : List ℕ} → w ≡ [] → Repeated L w
  more : {w : List ℕ} (u v : List ℕ) → w ≡ u ++ v → L u → Repeated L v → Repeated L w

-- "the pattern's language": the strings of symbols that it stands for, where `symbol p` is the symbol of the letter at place p;
-- "an empty branch means the empty string"
unfoldable pub Language : (ℕ → ℕ) → Pattern → List ℕ → Type 0
Language symbol empty w = w ≡ []
Language symbol (letter p) w = w ≡ symbol p ∷ []
Language symbol (either e f) w = Language symbol e w ⊎ Language symbol f w
Language symbol (both e f) w = (u : List ℕ) × (v : List ℕ) × (w ≡ u ++ v) × Language symbol e u × Language symbol f v
Language symbol (many e) w = Repeated (Language symbol e) w

-- "the set of letter occurrences that a reading may have just passed": a reading of w in the pattern may have just passed the letter at place p, by the
-- pattern's structure alone
unfoldable pub JustPassed : (ℕ → ℕ) → Pattern → List ℕ → ℕ → Type 0
JustPassed symbol empty w p = ⊥
JustPassed symbol (letter q) w p = (p ≡ q) × (w ≡ symbol q ∷ [])
JustPassed symbol (either e f) w p = JustPassed symbol e w p ⊎ JustPassed symbol f w p
JustPassed symbol (both e f) w p =
    JustPassed symbol e w p ⊎ ((u : List ℕ) × (v : List ℕ) × (w ≡ u ++ v) × Language symbol e u × JustPassed symbol f v p)
JustPassed symbol (many e) w p = (u : List ℕ) × (v : List ℕ) × (w ≡ u ++ v) × Repeated (Language symbol e) u × JustPassed symbol e v p
