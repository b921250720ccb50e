-- What the exported operand functions answer.
pub mod Exports
