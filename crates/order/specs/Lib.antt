-- The search that gives the postorder.
pub mod Postorder
pub mod Turns
