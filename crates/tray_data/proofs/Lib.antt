pub mod Answers
pub mod LongerBytes
