-- Laws of the call with an added set of parameters.
pub mod Parameters
pub mod StrayLaws
pub mod OutcomeLaws
pub mod ExamineLaws
pub mod WithLaws
pub mod GrowLaws
