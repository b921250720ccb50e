-- The edges between blocks as the words of scratch hold them.
pub mod Edges
pub mod Predecessors
pub mod Chains
pub mod Reachability
pub mod Stack
pub mod Flow
