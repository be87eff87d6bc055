pub mod Actions
pub mod Cut
pub mod Locate
pub mod Window
pub mod Worn
