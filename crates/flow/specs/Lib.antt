-- The call that checks a sheet.
pub mod Call
pub mod Verify
pub mod Within
pub mod With
pub mod BlocksVerify
pub mod BlocksWithin
pub mod BlocksWith
