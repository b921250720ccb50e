-- Laws of the block list.
pub mod WordLaws
pub mod ListLaws
pub mod Filled
