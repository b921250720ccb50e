-- The blocks of a script in the words of both buffers.
pub mod Words
pub mod Rows
pub mod Blocks
