pub mod Lengths
pub mod Messages
pub mod Parameters
