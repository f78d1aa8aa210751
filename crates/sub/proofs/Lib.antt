-- The laws of Sub: a tidy row's longest string; the rows of X and of Y at one start; two rows and a number as a table of their own;
-- the choices of one start and of all; the turns of the loops; what each function ensures; the step in place.
pub mod TidyLaws
pub mod RowsAt
pub mod PartRows
pub mod StartLaws
pub mod SubLaws
pub mod Turns
pub mod Steps
pub mod NarrowLaws
