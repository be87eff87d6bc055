pub mod Calls
pub mod Commands
pub mod Mediator
pub mod Runs
pub mod Table
