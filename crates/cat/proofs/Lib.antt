-- The laws of Cat: three rows as a table of their own; the strings of a whole row, and the choices by the lengths of X; one length of X in a table; the choices
-- of all lengths, gathered in rows beside it; and the step.
pub mod ThreeRows
pub mod CatLaws
pub mod SplitRow
pub mod SplitLaws
pub mod GatherLaws
pub mod StepLaws
