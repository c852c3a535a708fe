pub mod Constants
pub mod Local
pub mod Places
pub mod LongerBytes
pub mod Examples
