-- The judging of a sheet that passed the checks.
pub mod Judge
