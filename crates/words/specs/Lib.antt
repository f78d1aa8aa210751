-- The definitions that the contracts of `words` cite.
pub mod Ends
pub mod Each
