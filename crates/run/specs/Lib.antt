-- What stays the same while one script is judged.
pub mod Terms
