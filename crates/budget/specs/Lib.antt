-- The budget of a run and its limits.
pub mod Budget
