-- What an answer says: demands 2 and 3 by paths, and the refusal table.
pub mod Demands
pub mod Table
