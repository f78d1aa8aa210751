-- The laws of the words of a file's table, and of tables with no bit outside the alphabet.
pub mod FileTable
pub mod LowLaws
