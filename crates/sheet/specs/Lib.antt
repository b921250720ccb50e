-- What a sheet means. Reading order: Decode, Rows, Scripts, Checks. Code and Stages say what each stage of the code answers.
pub mod Decode
pub mod Rows
pub mod Scripts
pub mod Code
pub mod Stages
pub mod Checks
