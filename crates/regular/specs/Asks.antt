-- How the automaton is asked at the places of a row: by one symbol of each kind, and by what is kept of the word asked last. Assumes nothing.
use Rattle.std.specs.Prelude.{◌≡◌, ◌⊎◌, List, ℕ, Option, option_copied}
use Rattle.model.specs.Constraints.{Automaton}
use Rattle.automata.specs.Machine.{state_count, machine}
use Rattle.automata.specs.StateSets.{Successors, Steps, Targets, Forgotten}
use Rattle.automata.specs.Kinds.{Kinds, Firsts}
use Rattle.regular.specs.declared.Asked.{Asked}
use Rattle.regular.specs.declared.Moved.{Moved}
use Rattle.regular.specs.declared.Reached.{Reached}
use Rattle.regular.specs.declared.Place.{Place}

-- the automaton that is asked, how many states it has, and the kinds of its symbols
abbrev pub machine_of : Asked → Automaton
machine_of a = machine a.automaton.k a.automaton.bytes.now

abbrev pub states_of : Asked → ℕ
states_of a = state_count a.automaton.bytes.now

abbrev pub kinds_of : Asked → Option (List ℕ)
kinds_of a = option_copied a.kinds

-- the kinds are those of the automaton's symbols
pub record Asking (a : Asked) : Type 0 where
  pub kinds : Kinds (machine_of a) (states_of a) a.automaton.k (kinds_of a)

-- there is one symbol of each kind of the word; either it is the word asked last, or none was asked, and what was kept stays, or nothing is kept
pub record Turned (kinds : Option (List ℕ)) (symbols : ℕ) (old new : Moved) : Type 0 where
  pub word : new.word ≡ symbols
  pub firsts : Firsts kinds symbols new.firsts
  pub kept : ((new.tos ≡ old.tos) × ((new.firsts ≡ old.firsts) ⊎ (old.firsts ≡ 0))) ⊎ Forgotten new.tos

-- what is kept of the states, by one symbol of each kind of a word
pub record Keeps (a : Asked) (m : Moved) : Type 0 where
  pub first : Firsts (kinds_of a) m.word m.firsts
  pub targets : Targets (machine_of a) (states_of a) a.automaton.k m.firsts m.tos

-- the states that the set moves to; and what is kept of the states
pub record Forwards (a : Asked) (r : Reached) (m : Moved) : Type 0 where
  pub steps : Successors (machine_of a) (states_of a) a.automaton.k r.set r.symbols r.states
  pub keeps : Keeps a m

-- what the place that was asked last keeps; and what is kept of the states, in the same way
pub record Kept (a : Asked) (p : Place) (m : Moved) : Type 0 where
  pub steps : Steps (machine_of a) (states_of a) a.automaton.k p.allowed p.from p.into p.symbols p.states
  pub keeps : Keeps a m
