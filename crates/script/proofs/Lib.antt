-- A sheet that passed is checked code.
pub mod ScriptLaws
