pub mod Laws
pub mod Keeping
pub mod Examples
