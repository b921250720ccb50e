-- Laws of a round.
pub mod RingWords
pub mod Graphs
pub mod Fixed
pub mod Simulation
pub mod Visits
pub mod RoundLaws
