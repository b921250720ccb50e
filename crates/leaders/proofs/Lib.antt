-- Laws of numbering.
pub mod BlockLaws
pub mod IndexLaws
pub mod LeaderLaws
pub mod MarkLaws
pub mod NumberLaws
