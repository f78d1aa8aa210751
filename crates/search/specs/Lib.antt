-- The definitions that the contracts of `search` cite.
pub mod Visits
pub mod Outcomes
