-- Laws of what every form of the call shares.
pub mod AnswerLaws
pub mod LimitLaws
