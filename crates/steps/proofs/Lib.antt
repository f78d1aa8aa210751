-- The laws of steps on a table.
pub mod ClearLaws
pub mod NarrowsLaws
pub mod KindLaws
pub mod RegularTableLaws
pub mod TidyLaws
pub mod BlankLaws
pub mod SizeLaws
pub mod NamingLaws
pub mod StepLaws
pub mod TrimSteps
pub mod TrimmedLaws
pub mod KindsInLaws
