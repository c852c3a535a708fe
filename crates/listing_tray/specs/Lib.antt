pub mod Listing
pub mod Internal
