-- The reads of one block.
pub mod Reads
