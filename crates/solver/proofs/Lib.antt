-- Laws of the run over the words.
pub mod DependentLaws
pub mod RingLaws
pub mod RunLaws
pub mod SeedLaws
