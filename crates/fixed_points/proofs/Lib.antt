-- The laws of both rounds.
pub mod CodeGraph
pub mod Bits
pub mod RoundLaws
pub mod Seeds
pub mod FixedLaws
pub mod PathLaws
pub mod Gathered
