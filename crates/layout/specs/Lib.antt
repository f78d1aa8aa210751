-- The definitions that the contracts of `layout` cite.
pub mod Heads
pub mod Replied
