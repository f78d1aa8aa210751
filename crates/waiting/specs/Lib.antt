-- The definitions that the contracts of `waiting` cite.
pub mod Turns
pub mod Beginnings
