mod Decode
pub mod Encode
pub mod RoundTrip
