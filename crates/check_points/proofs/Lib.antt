-- Laws of the blocks in turn.
pub mod SolvedLaws
pub mod SpanLaws
pub mod CheckedLaws
pub mod TurnLaws
