pub mod Texts
pub mod EmptyChannels
pub mod Listing
pub mod LongerBytes
pub mod Examples
