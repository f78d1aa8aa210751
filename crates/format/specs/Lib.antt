-- The definitions that the contracts of `format` cite.
pub mod Accepting
pub mod Problems
