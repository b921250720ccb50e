-- Laws of the stages.
pub mod HostLaws
pub mod CellsKept
pub mod SolveLaws
pub mod JudgeLaws
