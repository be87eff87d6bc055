pub mod Cells
pub mod Laying
pub mod Passing
pub mod Rows
