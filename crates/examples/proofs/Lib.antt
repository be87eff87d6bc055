pub mod AllHold
