pub mod Runs
pub mod Host
pub mod History
pub mod Transfers
pub mod Rows
pub mod Examples
