-- Laws of a sheet examined.
pub mod ContentLaws
pub mod ListingLaws
pub mod ExamineLaws
