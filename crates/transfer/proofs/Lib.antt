-- Laws of what a visit computes.
pub mod TransferLaws
