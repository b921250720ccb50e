-- The calls for hosts.
pub mod Exports
pub mod Within
pub mod With
