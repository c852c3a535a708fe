pub mod Lists
pub mod Skipping
pub mod LongerBytes
