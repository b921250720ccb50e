-- Laws of the instructions and slots of a sheet that passed.
pub mod PlacedLaws
pub mod SlotLaws
pub mod SetSteps
pub mod Operands
pub mod Sound
pub mod SetMembers
pub mod HostWords
