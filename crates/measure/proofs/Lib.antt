-- The laws of steps on the table of `measure`.
pub mod ParityLaws
pub mod StepLaws
