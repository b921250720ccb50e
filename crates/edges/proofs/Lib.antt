-- Laws of the words that hold edges.
pub mod EdgeLaws
pub mod ChainLaws
pub mod StackLaws
pub mod SweepLaws
pub mod ResultLaws
pub mod FlowLaws
