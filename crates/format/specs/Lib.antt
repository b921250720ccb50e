-- What a record of a sheet is made of. Reading order: Refusals, Heads, Types, Fields. Answers says what the code answers.
pub mod Refusals
pub mod Heads
pub mod Types
pub mod Fields
pub mod Answers
