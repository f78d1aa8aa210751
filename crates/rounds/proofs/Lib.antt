-- The laws of rounds as code takes them, and of a table that is looked through for words that are 0.
pub mod RoundWalks
pub mod ValueLaws
