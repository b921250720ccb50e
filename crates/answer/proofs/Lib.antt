-- Laws of sets as words.
pub mod WordLaws
