-- The laws of the trailer, and of the reply that its numbers give.
pub mod TrailerLaws
pub mod ReplyOfLaws
