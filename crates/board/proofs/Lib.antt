pub mod Answers
pub mod Counted
pub mod Follows
pub mod Listed
pub mod Regular
