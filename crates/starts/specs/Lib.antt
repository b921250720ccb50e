-- The set that block 0 starts from.
pub mod Starts
