-- Laws of repeats.
pub mod RepeatLaws
