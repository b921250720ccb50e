-- The call with an added set of parameters.
pub mod Added
pub mod Outcome
pub mod Examine
