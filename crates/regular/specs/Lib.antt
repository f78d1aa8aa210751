-- The definitions that the contracts of `regular` cite.
pub mod Paths
pub mod PlaceSets
pub mod Asks
pub mod Backwards
