-- The laws of the refusals' numbers.
pub mod NumberLaws
