pub mod Printing
pub mod Puts
pub mod Run
pub mod Text
