pub mod InPairs
pub mod Reaching
pub mod Taken
