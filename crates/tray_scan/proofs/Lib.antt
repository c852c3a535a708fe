pub mod Parts
pub mod Writing
pub mod Consistent
pub mod LongerBytes
