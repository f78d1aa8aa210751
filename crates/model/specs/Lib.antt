-- The definitions, in the order of document 01: what a table stands for, the relations, solutions, a narrowing step, rounds, the search tree, the order of
-- solutions, the file, the operations, among them those of document 02 that settle by an index, automata with a sink written out, demand 3, and the worked
-- examples; then patterns as text, which document 02 asks for.
pub mod Lists
pub mod Words
pub mod Domains
pub mod Constraints
pub mod Solutions
pub mod Support
pub mod Rounds
pub mod Tree
pub mod Order
pub mod Replies
pub mod Layout
pub mod Reading
pub mod Operations
pub mod StepIndex
pub mod Queue
pub mod Sink
pub mod Listing
pub mod Claim
pub mod Cases
pub mod FileExamples
pub mod GapExamples
pub mod Traps
pub mod Pattern
pub mod PatternText
pub mod PatternStates
pub mod Numbering
pub mod Compile
