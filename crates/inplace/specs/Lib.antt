-- The definitions that the contracts of `inplace` and of the relations cite.
pub mod InTable
pub mod InPlace
pub mod Written
pub mod Adding
