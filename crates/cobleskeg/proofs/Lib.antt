-- The laws of the entries, by what looking the file over gave: what reading it gives, Read and Unpack; Step and Settle; Index and Settle by index;
-- Search; a list of calls; Compile.
pub mod AnswerLaws
pub mod LentLaws
pub mod ByIndexLaws
pub mod SearchEntryLaws
pub mod PerformLaws
pub mod CompileEntryLaws
