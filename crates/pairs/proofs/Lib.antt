pub mod Chunks
pub mod Counting
pub mod Writing
pub mod PeakPairs
pub mod Profiles
pub mod Examples
