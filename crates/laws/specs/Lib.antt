-- The vocabulary of the laws that contracts cite too: which bits lie within which; the support of choices; tables that may be lent and tables on which no
-- step strikes; a line of steps that wait; the search as a walk over three tables.
pub mod Inclusion
pub mod Supported
pub mod Lent
pub mod Line
pub mod Traversal
