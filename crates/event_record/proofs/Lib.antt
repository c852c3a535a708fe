pub mod Precursors
pub mod LongerBytes
pub mod Holding
pub mod Bodies
