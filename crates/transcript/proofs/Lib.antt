mod Decimal
mod FlashLine
mod Lines
mod Others
mod Runs
mod Turns
mod Wholes
pub mod Written
