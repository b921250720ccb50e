-- What the fields of an instruction are, and which slots it reads and writes.
pub mod Choice
pub mod Places
pub mod Variants
pub mod Patterns
pub mod Operands
pub mod ByPattern
pub mod Kinds
pub mod Roles
pub mod Bytes
pub mod Instructions
