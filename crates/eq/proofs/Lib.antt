-- The laws of Eq.
pub mod EqLaws
pub mod EqSteps
