-- A decoded sheet as a program.
pub mod Script
