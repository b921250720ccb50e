-- The listing of an answer.
pub mod Lines
pub mod Text
pub mod Awaits
pub mod LineText
