pub mod Writing
pub mod WithChunks
pub mod Answers
pub mod LongerBytes
