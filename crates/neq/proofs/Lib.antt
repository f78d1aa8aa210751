-- The laws of Neq.
pub mod OneStringLaws
pub mod OtherLaws
pub mod StepLaws
pub mod WithoutLaws
