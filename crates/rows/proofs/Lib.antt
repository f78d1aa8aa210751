-- The laws of rows: lists by their indices; trimming; meets and joins; windows; rows and numbers as a table of their own; a row put into a table; names.
pub mod Fill
pub mod TrimLaws
pub mod MeetLaws
pub mod ChoiceLaws
pub mod Windows
pub mod Positions
pub mod Alone
pub mod OneString
pub mod TwoStrings
pub mod StoreLaws
pub mod NamedLaws
