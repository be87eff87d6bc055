pub mod Answered
pub mod Demand
pub mod Examples
pub mod Kcs
pub mod Known
pub mod Runs
pub mod Same
