-- The laws of Duration.
pub mod SpellingLaws
pub mod StretchLaws
pub mod DurationLaws
pub mod DurationSteps
pub mod DurationExamples
pub mod DurationAutomata
