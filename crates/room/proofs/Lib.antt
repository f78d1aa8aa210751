-- The laws of a room's tables, and of the moves that change them.
pub mod TableAtLaws
pub mod MoveLaws
