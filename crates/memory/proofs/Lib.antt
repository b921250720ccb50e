-- The laws of the definitions of specs/, for the proofs of this crate and of others.
pub mod CellLaws
pub mod CellRows
pub mod ScratchLaws
pub mod NamedLaws
pub mod BackedLaws
pub mod SetsLaws
pub mod FrameLaws
pub mod EdgeLaws
pub mod WordLaws
