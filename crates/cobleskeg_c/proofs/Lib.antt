-- The laws of the C interface.
pub mod ReturnLaws
pub mod EntryLaws
pub mod ZeroLaws
