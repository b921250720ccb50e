-- The checks of one record.
pub mod Records
pub mod Steps
