-- Laws about the reads of a block.
pub mod ReadLaws
pub mod FrontLaws
