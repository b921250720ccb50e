-- Laws of the definitions: one for each way through the code, and what is read in a body.
pub mod HeadLaws
pub mod FieldLaws
pub mod FitLaws
pub mod TypeLaws
pub mod BodyLaws
