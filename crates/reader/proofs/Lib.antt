-- The laws of a number that is read from its last byte back.
pub mod NumberLaws
