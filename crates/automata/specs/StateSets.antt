-- Sets of states, by the moves that lead to them or from them: a set is a number, bit p for state p. A set that is gathered from moves is marked: it has bit 63
-- where one of them is missing. Assumes nothing.
use Rattle.std.specs.Prelude.{◌≡◌, ℕ, ◌<◌, Bool, true, ◌⊎◌, List, length}
use Rattle.model.specs.Words.{bit, word}
use Rattle.model.specs.Constraints.{Automaton, move, holds}
use Rattle.automata.specs.Machine.{mark_of}

-- r has just the bits t that E i t gives for some i below n
pub record Gathered (n : ℕ) (E : ℕ → ℕ → Type 0) (r : ℕ) : Type 0 where
  pub sound : (t : ℕ) → bit r t ≡ true → (i : ℕ) × (i < n) × E i t
  pub complete : (t i : ℕ) → i < n → E i t → bit r t ≡ true

-- r says whether E gives some i below n
pub record Found (n : ℕ) (E : ℕ → Type 0) (r : Bool) : Type 0 where
  pub sound : r ≡ true → (i : ℕ) × (i < n) × E i
  pub complete : (i : ℕ) → i < n → E i → r ≡ true

-- r has just the bits of w below n
pub record LowBits (n w r : ℕ) : Type 0 where
  pub sound : (i : ℕ) → bit r i ≡ true → (i < n) × (bit w i ≡ true)
  pub complete : (i : ℕ) → i < n → bit w i ≡ true → bit r i ≡ true

-- the states t to which state p moves by a symbol a of the word, of k symbols; marked
abbrev pub Moves : Automaton → ℕ → ℕ → ℕ → ℕ → Type 0
Moves A k p symbols r = Gathered k (λ a t. (bit symbols a ≡ true) × (mark_of (move A p a) ≡ t)) r

-- whether state p moves into the set by a symbol a of the word, of k symbols
abbrev pub Enters : Automaton → ℕ → ℕ → ℕ → ℕ → Bool → Type 0
Enters A k p set symbols r = Found k (λ a. (bit symbols a ≡ true) × (holds set (move A p a) ≡ true)) r

-- in an automaton of q states: whether a state p of the first set moves into the second by symbol a
abbrev pub Leads : Automaton → ℕ → ℕ → ℕ → ℕ → Bool → Type 0
Leads A q from into a r = Found q (λ p. (bit from p ≡ true) × (holds into (move A p a) ≡ true)) r

-- the states t to which a state p of the set moves by a symbol a of the word, of k symbols; marked
abbrev pub Successors : Automaton → ℕ → ℕ → ℕ → ℕ → ℕ → Type 0
Successors A q k set symbols r = Gathered k (λ a t. (bit symbols a ≡ true) × ((p : ℕ) × (p < q) × (bit set p ≡ true) × (mark_of (move A p a) ≡ t))) r

-- the states p of the first set that move into the second by a symbol a of the word, of k symbols
abbrev pub Entering : Automaton → ℕ → ℕ → ℕ → ℕ → ℕ → ℕ → Type 0
Entering A q k from into symbols r =
    Gathered q (λ p t. (p ≡ t) × (bit from p ≡ true) × ((a : ℕ) × (a < k) × (bit symbols a ≡ true) × (holds into (move A p a) ≡ true))) r

-- the symbols a, of k, that are allowed, and by which a state p of the first set moves into the second
abbrev pub Symbols : Automaton → ℕ → ℕ → ℕ → ℕ → ℕ → ℕ → Type 0
Symbols A q k allowed before after r = Gathered k
    (λ a t. (a ≡ t) × (bit allowed a ≡ true) × ((p : ℕ) × (p < q) × (bit before p ≡ true) × (holds after (move A p a) ≡ true))) r

-- both the symbols by which the first set moves into the second, and the states of the first that do
pub record Steps (A : Automaton) (q k allowed before after symbols states : ℕ) : Type 0 where
  pub by : Symbols A q k allowed before after symbols
  pub of : Entering A q k before after allowed states

-- the symbols a of the word, of k symbols, by which state p moves into the set
abbrev pub By : Automaton → ℕ → ℕ → ℕ → ℕ → ℕ → Type 0
By A k p set symbols r = Gathered k (λ a t. (a ≡ t) × (bit symbols a ≡ true) × (holds set (move A p a) ≡ true)) r

-- whether state p moves into the set by a symbol of the word; r has the symbols found before and those by which it does
pub record Added (A : Automaton) (k p set symbols found : ℕ) (enters : Bool) (r : ℕ) : Type 0 where
  pub whether : Enters A k p set symbols enters
  pub sound : (a : ℕ) → bit r a ≡ true → (bit found a ≡ true) ⊎ ((a < k) × (bit symbols a ≡ true) × (holds set (move A p a) ≡ true))
  pub keeps : (a : ℕ) → bit found a ≡ true → bit r a ≡ true
  pub complete : (a : ℕ) → a < k → bit symbols a ≡ true → holds set (move A p a) ≡ true → bit r a ≡ true

-- each of 32 sets is empty, or has the states to which its state moves by a symbol of the word; marked
pub record Targets (A : Automaton) (q k symbols : ℕ) (tos : List ℕ) : Type 0 where
  pub size : length tos ≡ 32
  pub each : (p : ℕ) → p < q → (word tos p ≡ 0) ⊎ Moves A k p symbols (word tos p)

-- all that is gathered from moves of q states by the symbols of a word, where a move may be missing by a symbol of another
pub record Most (q symbols lacking all : ℕ) : Type 0 where
  pub states : (t : ℕ) → t < q → bit all t ≡ true
  pub mark : (a : ℕ) → bit symbols a ≡ true → bit lacking a ≡ true → bit all 63 ≡ true

-- no state of 32 was asked
pub record Forgotten (tos : List ℕ) : Type 0 where
  pub size : length tos ≡ 32
  pub none : (p : ℕ) → p < 32 → word tos p ≡ 0
