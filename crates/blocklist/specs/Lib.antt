-- The block list of a script, from the words of scratch.
pub mod List
