-- Laws of the stages.
pub mod HoldingLaws
pub mod GraphLaws
