-- Laws for the compiler: the places of each symbol; single tests; the bytes in the buffer; the whole operation.
pub mod SortLaws
pub mod TestLaws
pub mod BufferLaws
pub mod AnswerLaws
