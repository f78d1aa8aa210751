-- The laws of steps that say whether they struck.
pub mod TrimmingLaws
pub mod HoldingLaws
pub mod ChangeLaws
pub mod FileLaws
