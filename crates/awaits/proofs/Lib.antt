-- Laws about the awaits of a block.
pub mod SlotLaws
pub mod AwaitLaws
pub mod MeansLaws
pub mod InstructionLaws
pub mod BackwardLaws
pub mod ChargeLaws
