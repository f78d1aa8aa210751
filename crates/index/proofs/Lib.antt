-- The laws of `index`.
pub mod JoiningLaws
pub mod KindLaws
pub mod WakingLaws
pub mod NotingLaws
pub mod LentLaws
pub mod StandingLaws
