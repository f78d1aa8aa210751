-- The laws about the definitions, each module after those it cites: lists and words; a row, a table and its domains; one narrowing step; rounds; solutions;
-- the search tree; the index of the steps and their queue; the file; problems that mean the same, and sinks written out; demand 3. `SliceLaws`, `Supports`,
-- `NeqLaws`, `LoopLaws` and `StackLaws` are for the code above: parts of a lent slice, a step's parts, Neq's step, the search's loop and its invariant.
pub mod ListLaws
pub mod SliceLaws
pub mod CollectLaws
pub mod WordLaws
pub mod BitsLaws
pub mod ShiftLaws
pub mod TableLaws
pub mod RowLaws
pub mod DomainLaws
pub mod SupportLaws
pub mod Supports
pub mod PlaceLaws
pub mod RenameLaws
pub mod NeqLaws
pub mod PartLaws
pub mod RoundLaws
pub mod SolutionLaws
pub mod ChildLaws
pub mod NodeLaws
pub mod BranchLaws
pub mod TreeLaws
pub mod BudgetLaws
pub mod LoopLaws
pub mod ReplyLaws
pub mod StepNumberLaws
pub mod StepIndexLaws
pub mod QueueLaws
pub mod CallLaws
pub mod StackLaws
pub mod LayoutLaws
pub mod ReadingLaws
pub mod AlikeLaws
pub mod SinkLaws
pub mod Demand
