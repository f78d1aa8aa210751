-- The kinds of an automaton's symbols, and the symbols by which a move may be missing, as words. Assumes nothing.
use Rattle.std.specs.Prelude.{◌≡◌, ℕ, ◌+◌, ◌-◌, ◌*◌, ◌^◌, ◌<◌, IfSome, Bool, true, false, ◌≢◌, ◌⊎◌, List, length, drop, slice_range, nat_le, Option, Some, None, if◌then◌else◌, bit_or}
use Rattle.std.proofs.Math.Option.{some}
use Rattle.model.specs.Words.{bit, word}
use Rattle.model.specs.Constraints.{Automaton, move}
use Rattle.model.specs.Reading.{automata_in}
use Rattle.automata.specs.Machine.{state_count, machine}
use Rattle.automata.specs.StateSets.{Gathered}
use Rattle.automata.specs.Walk.{Starts}

-- each of the first q states moves alike by a and b
pub record Alike (D : Automaton) (q a b : ℕ) : Type 0 where
  pub each : (p : ℕ) → p < q → move D p a ≡ move D p b

-- each of the first q states moves by a
pub record Total (D : Automaton) (q a : ℕ) : Type 0 where
  pub each : (p : ℕ) → p < q → (t : ℕ) × (move D p a ≡ some t)

-- w has symbol a, and only symbols below k by which every state moves as by a
pub record OneKind (D : Automaton) (q k a w : ℕ) : Type 0 where
  pub own : bit w a ≡ true
  pub only : (b : ℕ) → bit w b ≡ true → (b < k) × Alike D q a b

-- by a symbol that the word does not have, of k, every state moves
pub record Lacks (D : Automaton) (q k lacking : ℕ) : Type 0 where
  pub total : (a : ℕ) → a < k → bit lacking a ≡ false → Total D q a

-- the word of symbol a: symbols of its kind; without words, none
abbrev pub kind_of : Option (List ℕ) → ℕ → ℕ
kind_of None a = 0
kind_of (Some ks) a = word ks a

-- the symbols by which a move may be missing; without words, all
abbrev pub lacking_of : Option (List ℕ) → ℕ
lacking_of None = 2 ^ 64 - 1
lacking_of (Some ks) = word ks 64

-- Word a has only symbols of the kind of a, for the symbols below k, and word 64, where words are lent, those by which a move may be missing. Without words each symbol
-- is a kind of its own.
pub record Kinds (D : Automaton) (q k : ℕ) (kinds : Option (List ℕ)) : Type 0 where
  pub each : (a b : ℕ) → a < k → bit (kind_of kinds a) b ≡ true → (b < k) × Alike D q a b
  pub lacks : IfSome kinds (λ ks. Lacks D q k (word ks 64))

-- the same of words that are lent
abbrev pub KindWords : Automaton → ℕ → ℕ → List ℕ → Type 0
KindWords D q k ks = Kinds D q k (Some ks)

-- the 65 words of automaton i
abbrev pub words_of : List ℕ → ℕ → List ℕ
words_of ks i = slice_range ks (65 * i) (65 * i + 65)

-- these, where there are so many
abbrev pub words_at : List ℕ → ℕ → Option (List ℕ)
words_at ks i = (if nat_le (65 * i + 65) (length ks) then Some (words_of ks i) else None)

-- U is T with w at each of its symbols
pub record Spread (T : List ℕ) (w : ℕ) (U : List ℕ) : Type 0 where
  pub size : length U ≡ length T
  pub there : (b : ℕ) → bit w b ≡ true → word U b ≡ w
  pub others : (n : ℕ) → (bit w n ≡ true → ⊥) → word U n ≡ word T n

-- U is T; if a move may be missing, word 64 has the symbols of w too
pub record Noted (T : List ℕ) (w : ℕ) (missing : Bool) (U : List ℕ) : Type 0 where
  pub size : length U ≡ length T
  pub others : (n : ℕ) → n ≢ 64 → word U n ≡ word T n
  pub keeps : (b : ℕ) → bit (word T 64) b ≡ true → bit (word U 64) b ≡ true
  pub new : missing ≡ true → (b : ℕ) → bit w b ≡ true → bit (word U 64) b ≡ true

-- a word that is not 0 is its symbol's kind, and word 64 says of its symbol whether a move may be missing; those of the first n symbols are not 0
pub record Partly (D : Automaton) (q k : ℕ) (ks : List ℕ) (n : ℕ) : Type 0 where
  pub each : (a : ℕ) → a < k → (word ks a ≡ 0) ⊎ OneKind D q k a (word ks a)
  pub total : (a : ℕ) → a < k → word ks a ≢ 0 → bit (word ks 64) a ≡ false → Total D q a
  pub done : (a : ℕ) → a < n → 0 < word ks a

-- "exactly d automata"
pub record AllHeld (k d : ℕ) (bs : List ℕ) : Type 0 where
  pub automata : List Automaton
  pub read : automata_in k d bs ≡ some automata

-- the kinds of d automata, wherever in the bytes they start
pub record AllKinds (k d : ℕ) (bs ks : List ℕ) : Type 0 where
  pub each : (i r : ℕ) → i < d → Starts k bs i r → KindWords (machine k (drop r bs)) (state_count (drop r bs)) k (words_of ks i)

-- r has symbols of w; each symbol of w is one of r, or of the kind of one
pub record Firsts (kinds : Option (List ℕ)) (w r : ℕ) : Type 0 where
  pub within : (a : ℕ) → bit r a ≡ true → bit w a ≡ true
  pub each : (b : ℕ) → bit w b ≡ true → (a : ℕ) × (bit r a ≡ true) × (bit (bit_or (kind_of kinds a) (2 ^ a)) b ≡ true)

-- these symbols, and those of their kinds
abbrev pub AllOf : Option (List ℕ) → ℕ → ℕ → Type 0
AllOf kinds firsts r = Gathered 64 (λ a t. (bit firsts a ≡ true) × (bit (bit_or (kind_of kinds a) (2 ^ a)) t ≡ true)) r
