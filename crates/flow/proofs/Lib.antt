-- Laws of the call.
pub mod CallLaws
pub mod WordLaws
pub mod Bounds
pub mod BlockLaws
pub mod FilledLaws
