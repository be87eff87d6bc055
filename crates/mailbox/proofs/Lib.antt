pub mod Arms
pub mod Ends
pub mod Front
pub mod Lengths
mod Marking
pub mod Mediating
pub mod Ran
pub mod Refusing
