-- The awaits of one block.
pub mod Awaits
