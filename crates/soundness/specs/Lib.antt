pub mod Pending
pub mod Soundness
