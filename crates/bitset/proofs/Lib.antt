-- The laws of the definitions of specs/, for the proofs of this crate and of others.
pub mod Below
pub mod Digits
pub mod SetLaws
pub mod RowLaws
pub mod ZipLaws
pub mod LoopLaws
