pub mod Access
pub mod Answered
pub mod Counting
pub mod Facts
pub mod SoundMarks
