-- What the code's records mean, and the refusals 7 and 8.
pub mod Records
