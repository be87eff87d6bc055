pub mod Few
pub mod Serving
pub mod Told
