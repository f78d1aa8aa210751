-- The laws of rows in place.
pub mod Tables
pub mod Loops
pub mod Reach
pub mod Sides
pub mod Narrowing
pub mod Tidied
pub mod Shapes
pub mod Parts
pub mod Writing
pub mod Replacing
pub mod MeetsLaws
pub mod Supported
pub mod AddLaws
