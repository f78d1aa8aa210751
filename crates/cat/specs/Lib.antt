-- The definitions that the contracts of `cat` cite.
pub mod Splits
pub mod Strings
pub mod Gathering
