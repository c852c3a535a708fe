pub mod Writing
pub mod Found
pub mod LongerBytes
