-- What the definitions give, by computation: the worked examples of documents 01 and 02. Definitions that they need alone stand in specs/ under the same names.
pub mod Examples
pub mod FileExamples
pub mod QueueExamples
pub mod GapExamples
pub mod Traps
pub mod PatternExamples
