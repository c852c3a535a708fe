pub mod Examples
pub mod Bytes
pub mod Held
pub mod Codes
pub mod RoundTrip
pub mod WritesBack
