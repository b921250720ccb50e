-- What every form of the call shares.
pub mod Answers
