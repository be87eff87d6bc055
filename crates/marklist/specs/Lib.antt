pub mod MarkList
pub mod Reach
