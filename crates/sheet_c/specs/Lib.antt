-- What the exported check of a sheet answers.
pub mod Exports
