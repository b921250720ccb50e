-- The graph of a script in both buffers.
pub mod Graph
