pub mod Stores
pub mod Loops
pub mod Writing
