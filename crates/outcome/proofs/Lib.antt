-- Laws of outcomes.
pub mod JoinedLaws
pub mod Cases
pub mod LimitLaws
