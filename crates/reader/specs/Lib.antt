-- What a reader answers.
pub mod Steps
