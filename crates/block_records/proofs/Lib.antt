-- Laws of the block list as structs.
pub mod RecordLaws
