-- The definitions that the contracts of `duration` cite.
pub mod Durations
pub mod Spelling
pub mod Stretches
