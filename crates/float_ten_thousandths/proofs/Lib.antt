pub mod Constants
pub mod Scaling
