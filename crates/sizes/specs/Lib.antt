-- The sizes of the lent buffers, and the refusals that they decide.
pub mod Sizes
pub mod Stages
