pub mod Events
pub mod Machine
pub mod Marks
pub mod Record
pub mod Suspension
