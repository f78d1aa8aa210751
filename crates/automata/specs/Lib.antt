-- The definitions that the contracts of `automata` cite.
pub mod Machine
pub mod StateSets
pub mod Walk
pub mod Kinds
