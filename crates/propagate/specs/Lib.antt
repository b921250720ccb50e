-- A round of `propagate` as a worklist run over rows of words.
pub mod Rounds
