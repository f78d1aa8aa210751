-- The laws of `list`.
pub mod StepWalkLaws
pub mod ListedLaws
pub mod CopyLaws
