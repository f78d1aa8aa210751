-- The laws of records and of refusals 7 and 8.
pub mod RecordLaws
pub mod RecordRefusalLaws
