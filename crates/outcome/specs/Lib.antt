-- What the call answers, and what it leaves in each lent buffer.
pub mod Outcome
pub mod Buffers
pub mod Sheets
