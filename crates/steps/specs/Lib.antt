-- The definitions that the contracts of `steps` cite.
pub mod Step
pub mod Names
