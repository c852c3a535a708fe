pub mod Narrow
pub mod Internal
