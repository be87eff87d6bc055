pub mod Each
pub mod Replace
pub mod Stores
