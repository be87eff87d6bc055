pub mod Demand
mod FirstList
mod MarksAgain
pub mod Recipe
mod SecondList
mod Sending
