pub mod Chunks
pub mod Signals
pub mod Answers
pub mod Size
pub mod LongerBytes
