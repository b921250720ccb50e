-- Sets as words.
pub mod Words
pub mod Held
