pub mod Bytes
pub mod Cuts
pub mod Failing
mod InWindow
pub mod Lists
pub mod Whole
pub mod Acting
