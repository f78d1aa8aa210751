-- What a search that does less says of its tables: settling by constraints that wait, and the table that is kept.
pub mod Waiting
pub mod Kept
