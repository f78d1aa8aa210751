-- The laws of Rev.
pub mod RevLaws
pub mod TurnLaws
pub mod RevSteps
pub mod OneLength
