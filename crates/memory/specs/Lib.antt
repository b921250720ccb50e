-- Lent words as a list of cells.
pub mod Cells
pub mod Buffer
pub mod Names
pub mod Scratch
pub mod Named
pub mod Edges
pub mod Frame
pub mod Sets
