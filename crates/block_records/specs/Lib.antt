-- Block structs.
pub mod Blocks
pub mod Records
