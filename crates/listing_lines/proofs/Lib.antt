pub mod Places
pub mod Digits
pub mod Listing
pub mod Room
pub mod Examples
pub mod Fields
