pub mod Phases
pub mod Taking
pub mod RoundTrip
pub mod Places
pub mod Leaving
