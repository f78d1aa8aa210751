-- The laws behind the listing: bytes written one after the other, numerals, the lines of a solution, and how long they are.
pub mod WritingLaws
pub mod NumeralLaws
pub mod LineLaws
pub mod TableLinesLaws
pub mod FoundLaws
pub mod LengthLaws
pub mod SearchedLaws
pub mod ReportLaws
