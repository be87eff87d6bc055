pub mod Cut
pub mod Demand
pub mod Recipe
pub mod Second
