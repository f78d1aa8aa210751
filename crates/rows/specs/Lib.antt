-- The definitions that the contracts and the laws of rows in a table cite.
pub mod Rows
pub mod Parts
