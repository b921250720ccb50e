-- The laws of what an answer says.
pub mod TableLaws
pub mod HeldLaws
pub mod RowLaws
pub mod AcceptLaws
pub mod DemandLaws
