pub mod Cases
pub mod Keys
pub mod Rounding
