-- `check_points` over all blocks.
pub mod CheckPoints
