pub mod Codes
mod CarriedOut
pub mod Demand2
pub mod Events
pub mod Flags
pub mod Kept
pub mod MarkList
pub mod Marks
mod MarksKept
pub mod Memory
pub mod Pending
pub mod Refused
pub mod Runs
pub mod Succeeding
pub mod Reach
pub mod Worn
