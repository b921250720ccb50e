-- Laws of the definitions, and what a record that passed is like.
pub mod RecordLaws
pub mod Passed
pub mod PlainLaws
pub mod RunLaws
