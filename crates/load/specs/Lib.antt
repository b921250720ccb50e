-- The load of an answer.
pub mod Load
pub mod Counting
