-- The definitions that the contracts of the entries cite.
pub mod Answers
pub mod Claims
