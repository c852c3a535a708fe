pub mod Headers
pub mod Walk
pub mod AnyLimit
pub mod LongerBytes
pub mod Examples
