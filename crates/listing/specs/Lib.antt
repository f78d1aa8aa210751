-- The definitions that the contracts of the listing cite.
pub mod Writing
pub mod TableLines
