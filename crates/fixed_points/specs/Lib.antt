-- The two rounds, as `dataflow` defines them on code.
pub mod FixedPoints
pub mod Stages
pub mod PathSets
