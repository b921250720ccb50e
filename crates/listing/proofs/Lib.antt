-- The laws of the definitions of specs/, for the proofs of this crate.
pub mod Decimal
pub mod TextLaws
pub mod LineLaws
pub mod SlotLaws
pub mod AwaitLaws
pub mod Cases
