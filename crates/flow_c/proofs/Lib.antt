-- Laws of the exported calls.
pub mod HostLaws
pub mod LoadLaws
pub mod WithinLaws
pub mod WithLaws
