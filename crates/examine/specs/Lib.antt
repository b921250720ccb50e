-- A sheet examined.
pub mod Examine
pub mod Stages
