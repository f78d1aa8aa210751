-- The definitions that the contracts of `rev` cite.
pub mod Turned
