-- The definitions that the contracts of `sub` cite.
pub mod Substrings
