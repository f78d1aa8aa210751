-- The definitions that the contracts of `striking` cite.
pub mod Strikes
pub mod Named
