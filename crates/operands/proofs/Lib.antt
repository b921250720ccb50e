-- The two definitions of the operands are one, and what is read in place is what they say.
pub mod Table
pub mod KindLaws
pub mod Agree
pub mod PatternLaws
pub mod NumberLaws
pub mod PlaceLaws
pub mod OperandLaws
