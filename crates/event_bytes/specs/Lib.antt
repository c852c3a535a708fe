pub mod Codes
pub mod Write
pub mod Internal
pub mod RoundTrip
