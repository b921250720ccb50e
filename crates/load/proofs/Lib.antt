-- The laws of the definitions of specs/.
pub mod Sums
pub mod WordCounts
pub mod CountLaws
pub mod LoadLaws
pub mod WeightLaws
pub mod Cases
