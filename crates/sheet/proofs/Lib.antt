-- What the checks answer together, what it means, and the row of each number. Cases computes the sheets to try.
pub mod WalkLaws
pub mod WordLaws
pub mod CodeLaws
pub mod StageLaws
pub mod Answer
pub mod Checked
pub mod Rows
pub mod Numbers
pub mod CheckLaws
pub mod Cases
