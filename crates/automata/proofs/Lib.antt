-- The laws of an automaton in its bytes, of sets of states gathered by loops, and of automata one after the other.
pub mod MachineLaws
pub mod SetLaws
pub mod AutomataWalkLaws
pub mod KindLaws
pub mod TargetLaws
