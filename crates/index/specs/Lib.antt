-- The definitions that the contracts of `index` cite.
pub mod Index
pub mod Joining
pub mod Waking
pub mod Standing
