-- The laws of Len.
pub mod LenLaws
pub mod LenSteps
