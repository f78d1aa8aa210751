-- The definitions that the contracts of `neq` cite.
pub mod Others
