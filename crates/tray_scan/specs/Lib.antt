pub mod Scan
pub mod Internal
