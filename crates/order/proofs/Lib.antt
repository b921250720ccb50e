-- Laws of the search over the words of scratch.
pub mod Marks
pub mod SearchEnd
pub mod FrameLaws
pub mod TurnLaws
pub mod RunLaws
