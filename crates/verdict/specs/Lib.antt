-- `check_points` as a run, charge by charge.
pub mod Points
pub mod Ascending
