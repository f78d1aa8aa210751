-- Compile: from the text of a pattern to the bytes of an automaton (document 02, ticket 1), and refusals 14 to 17. Assumes nothing.
use Rattle.std.specs.Prelude.{◌≡◌, ◌↔◌, Bool, true, false, ◌&&◌, ◌||◌, ℕ, zero, suc, ◌+◌, ◌*◌, ◌/◌, ◌%◌, ◌^◌, eqb, ltb, leb, length, get_or, drop}
use mathlib.Core.List.{List, [], ◌∷◌, ◌++◌, map, flat_map}
use Rattle.std.proofs.Math.Option.{Option, none, some}
use Rattle.model.specs.Lists.{select, all, upto}
use Rattle.model.specs.Words.{union}
use Rattle.model.specs.Constraints.{Automaton, accepts}
use Rattle.model.specs.Replies.{Reply, refused, answered, require, and_then}
use Rattle.model.specs.Reading.{automaton}
use Rattle.model.specs.Pattern.{Pattern, Language}
use Rattle.model.specs.PatternText.{Parsed, bad, parsed, parse, symbol_of, symbol_at}
use Rattle.model.specs.PatternStates.{State, start, passed, advance, final}
use Rattle.model.specs.Numbering.{number_in, explore}

-- ---- the automaton of a pattern

-- a state is its set; the start is none of the others
unfoldable pub same_state : State → State → Bool
same_state start start = true
same_state start (passed v) = false
same_state (passed w) start = false
same_state (passed w) (passed v) = eqb w v

module _ (k : ℕ) (symbol : ℕ → ℕ) (e : Pattern) where
  -- the states that the symbols below k lead to from a state, upwards
  unfoldable pub successors : State → List State
  successors x = map (advance symbol e x) (upto k)

  -- the states in the order of their numbers; more than 32 where more than 32 are reached
  unfoldable pub states : List State
  states = explore same_state successors start 32 0 (start ∷ [])

  -- the automaton whose states are numbered by this list
  unfoldable pub automaton_of : List State → Automaton
  automaton_of Q = record {
    accepting = union (map (λ i. 2 ^ i) (select (λ i. final e (get_or Q i start)) (upto (length Q))));
    moves = map (λ x. map (λ y. some (number_in same_state Q y)) (successors x)) Q;
  }

-- ---- its bytes

-- n bytes of a number, little-endian
unfoldable pub bytes_of : ℕ → ℕ → List ℕ
bytes_of zero w = []
bytes_of (suc n) w = w % 256 ∷ bytes_of n (w / 256)

-- the byte of a move; by ticket 5 "Let byte 255 in a row mean that no move exists". A pattern's automaton has every move: "the empty set, from which nothing is
-- accepted, is one of them if reached"
unfoldable pub byte_of : Option ℕ → ℕ
byte_of none = 255
byte_of (some p) = p

-- document 01's form: "a state count q (1 to 32, one byte), 32 bits of accepting states (bits at q and above are 0), then q rows of k bytes"
unfoldable pub encoded : Automaton → List ℕ
encoded A = length A.moves ∷ (bytes_of 4 A.accepting ++ flat_map (map byte_of) A.moves)

-- ---- the refusals

-- "14 when the text … breaks these rules"
unfoldable pub when_parsed : {B : Type 0} → Parsed → (Pattern → Reply B) → Reply B
when_parsed bad f = refused 14
when_parsed (parsed e p) f = f e

-- "a letter's symbol is not below k": of no byte of the text
unfoldable pub letters_below : ℕ → List ℕ → Bool
letters_below k s = all (λ b. leb 39 (symbol_of b) || ltb (symbol_of b) k) s

-- the bytes for a text and k symbols, where the buffer has so many: "14 when the text is too long or breaks these rules, 15 when k is not 1 to 64 or a letter's
-- symbol is not below k, 16 when more than 32 states are reached, the start included, 17 when the buffer is shorter than 5 + qk, in that order"
unfoldable pub compiled_bytes : ℕ → List ℕ → ℕ → Reply (List ℕ)
compiled_bytes k s room =
    require (leb (length s) 63) 14
    (when_parsed (parse s) (λ e.
    require (leb 1 k && leb k 64 && letters_below k s) 15
    (let Q = states k (symbol_at s) e in
    require (leb (length Q) 32) 16
    (require (leb (5 + length Q * k) room) 17 (answered (encoded (automaton_of k (symbol_at s) e Q)))))))

-- ---- the operation

-- how many bytes are written, and the lent buffer afterwards
pub record Compiled : Type 0 where
  pub written : ℕ
  pub buffer : List ℕ

-- "The answer is the number of bytes written; bytes past them are untouched"
unfoldable pub compile : ℕ → List ℕ → List ℕ → Reply Compiled
compile k s B = and_then (compiled_bytes k s (length B)) (λ bs. answered (record { written = length bs; buffer = bs ++ drop (length bs) B }))

-- ---- what is claimed of it

-- "The automaton accepts just the pattern's language": the text is a pattern, the bytes are an automaton, and a string of symbols below k is accepted just when
-- it is in the language
pub record AcceptsLanguage (k : ℕ) (s bs : List ℕ) : Type 0 where
  pub pattern : Pattern
  pub reads : parse s ≡ parsed pattern (length s)
  pub machine : Automaton
  pub holds : automaton k bs ≡ some machine
  pub language : (w : List ℕ) → all (λ a. ltb a k) w ≡ true → (accepts machine w ≡ true) ↔ Language (symbol_at s) pattern w
