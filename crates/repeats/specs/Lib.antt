-- Repeats in a list.
pub mod Repeats
pub mod Seen
