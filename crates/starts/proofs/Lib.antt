-- Laws of the set that block 0 starts from.
pub mod StartLaws
pub mod ScriptedLaws
