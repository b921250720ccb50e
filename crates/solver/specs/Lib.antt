-- The worklist run over the words of both buffers.
pub mod Dependents
pub mod Run
