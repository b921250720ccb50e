-- Laws of the refusals that the sizes decide.
pub mod StageLaws
pub mod LimitLaws
