-- Sets of slots in words of 64 bits, and rows of words in a slice.
pub mod Below
pub mod Sets
pub mod Operations
pub mod Rows
