pub mod Inverse
pub mod Registers
