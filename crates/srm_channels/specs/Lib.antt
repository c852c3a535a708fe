pub mod Channels
pub mod LongerBytes
