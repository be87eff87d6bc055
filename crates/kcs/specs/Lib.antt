pub mod Port
pub mod Effects
pub mod Accesses
pub mod Bytes
pub mod Kinds
