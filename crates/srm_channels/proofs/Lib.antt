pub mod Constants
pub mod Turns
pub mod IsEvent
pub mod Answers
pub mod LongerBytes
pub mod Events
pub mod Examples
