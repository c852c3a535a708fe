pub mod Answers
pub mod Errors
pub mod Fields
