-- What the run of `check_points` says of a script.
pub mod RunLaws
pub mod Sublists
pub mod PointLaws
pub mod RetainedLaws
pub mod Cases
pub mod LimitLaws
