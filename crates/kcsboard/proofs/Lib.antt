pub mod RoundTrip
pub mod Follows
